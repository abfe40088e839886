-- How a stream is read on, one text after another.
use Rattle.std.proofs.Common.{ℕ, List, [], ◌++◌, Option, refl, sym, ap, ◌∙◌, append_assoc, append-nil}
use Rattle.std.proofs.KnownBytes.{Consumes-nil, Consumes-trans}
use Rattle.sf_streams.specs.Streams.{Left, Goes}

abbrev pub at : ℕ → List ℕ → Left
at place bytes = record { place = place; bytes = bytes }

pub Goes-nothing : {R : Type 0} (before : Left → R) (unread : Option (List ℕ)) (ahead : Left) → Goes before before unread unread ahead ahead
Goes-nothing before unread ahead = record { text = []; got = []; consumed = Consumes-nil unread; parts = append-nil ahead.bytes; reads = λ rest. refl }

pub Goes-on : {R : Type 0} (r1 r2 r3 : Left → R) (u1 u2 u3 : Option (List ℕ)) (first second third : Left)
    → Goes r1 r2 u1 u2 first second → Goes r2 r3 u2 u3 second third → Goes r1 r3 u1 u3 first third
Goes-on r1 r2 r3 u1 u2 u3 first second third a b = record {
  text = a.text ++ b.text;
  got = a.got ++ b.got;
  consumed = Consumes-trans _ _ _ _ _ a.consumed b.consumed;
  parts = sym (append_assoc first.bytes a.got b.got) ∙ ap (λ (t : List ℕ). t ++ b.got) a.parts ∙ append_assoc a.text second.bytes b.got
      ∙ ap (λ (t : List ℕ). a.text ++ t) b.parts ∙ sym (append_assoc a.text b.text third.bytes);
  reads = λ rest. ap (λ (t : List ℕ). r1 (at first.place t)) (append_assoc a.text b.text rest) ∙ a.reads (b.text ++ rest) ∙ b.reads rest;
}
