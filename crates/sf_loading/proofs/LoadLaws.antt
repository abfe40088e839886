-- A whole stream.
use Rattle.std.proofs.Common.{◌≡◌, ℕ, ◌<◌, List, [], ◌∷◌, ◌++◌, length, Option, Some, None, Ok, Err, refl, sym, ap, subst, ◌∙◌, append-nil, arith}
use Rattle.std.proofs.KnownBytes.{Consumes-trans}
use Rattle.std.specs.Io.KnownBytes.{Consumes, IsAtEnd}
use Rattle.sf_format.specs.Stored.{Ruled}
use Rattle.sf_streams.specs.Streams.{Left, ReadsAhead, Goes, nothing_ahead}
use Rattle.sf_streams.proofs.ReadingLaws.{at}
use Rattle.sf_format.specs.declared.defect.Defect.{Defect}
use Rattle.sf_format.specs.declared.defect.Defect.TheVariants.{Trailing}
use Rattle.sf_format.specs.Defects.{number_of}
use Rattle.sf_format.specs.Readings.{Reading, ◌>>=◌, done, end}
use Rattle.sf_format.specs.Format.{file, value_of, ruled_content_of}
use Rattle.sf_loading.specs.Loading.{Loads, Lacks}
use Rattle.sf_loading.specs.Streaming.{Finds}
use Rattle.sf_loading.proofs.StreamLaws.{AreLeft-told, told}

-- where a reader tells its bytes, what loads are those bytes
pub Loads-known : (text : List ℕ) (left : Option (List ℕ)) (ruled : Ruled) → Loads (Some text) left ruled → ruled_content_of text ≡ Ok ruled
Loads-known text None ruled loads = absurd loads.consumed
Loads-known text (Some rest) ruled loads =
    let all : loads.text ≡ text = sym (loads.consumed ∙ ap (λ (t : List ℕ). loads.text ++ t) loads.at_end ∙ append-nil loads.text) in
    ap ruled_content_of (sym all) ∙ loads.loads

pub Lacks-known : (text : List ℕ) (left : Option (List ℕ)) (place inner : ℕ) → Lacks (Some text) left place inner
    → (defect : Defect) × (inner ≡ number_of defect) × (ruled_content_of text ≡ Err (record { place = place; defect = defect }))
Lacks-known text None place inner lacks = absurd lacks.consumed
Lacks-known text (Some rest) place inner lacks =
    (lacks.defect, lacks.is_inner, ap ruled_content_of (lacks.consumed ∙ ap (λ (t : List ℕ). lacks.text ++ t) lacks.is_left) ∙ lacks.faulty)

-- after the last rule the reader is at its end, and nothing stands ahead: the stream is a file of what was read
pub Loads-end : (ruled : Ruled) (unread mid left : Option (List ℕ)) (second third : Left) → Goes file (end >>= λ ended. done ruled) unread mid nothing_ahead second
    → ReadsAhead mid left second third → IsAtEnd left → third.bytes ≡ [] → Loads unread left ruled
Loads-end ruled unread mid left second third a b at_end nothing = record {
  text = a.text;
  consumed = subst (Consumes unread left) all (Consumes-trans _ _ _ _ _ a.consumed b.consumed);
  at_end = at_end;
  loads = ap (λ (t : List ℕ). value_of (file (at 0 t))) (sym (append-nil a.text)) ∙ ap value_of (a.reads []);
}
  where
    both_empty : (xs ys : List ℕ) → xs ++ ys ≡ [] → (xs ≡ []) × (ys ≡ [])
    both_empty [] ys e = (refl, e)
    both_empty (x ∷ xs) ys e = absurd cc

    none : (second.bytes ≡ []) × (b.got ≡ [])
    none = both_empty second.bytes b.got (ap (λ (s : Left). s.bytes) (sym b.ahead) ∙ nothing)

    all : a.got ++ b.got ≡ a.text
    all = ap (λ (t : List ℕ). a.got ++ t) none.1 ∙ append-nil a.got ∙ a.parts ∙ ap (λ (t : List ℕ). a.text ++ t) none.0 ∙ append-nil a.text

-- a byte stands ahead where nothing should
pub Finds-trailing : {T : Type 0} (next : Unit {0} → Reading T) (place : ℕ) (unread left : Option (List ℕ)) (old mid : Left) → ReadsAhead unread left old mid → 0 < length mid.bytes → place ≡ mid.place
    → Finds (end >>= next) (record { place = place; defect = Trailing }) unread left old
Finds-trailing next place unread left old mid a some here = record {
  got = a.got;
  rest = told left;
  consumed = a.consumed;
  is_left = AreLeft-told left;
  faulty = ap (λ (t : List ℕ). (end >>= next) (at old.place (t ++ told left))) (ap (λ (s : Left). s.bytes) (sym a.ahead))
      ∙ refused mid.bytes some
      ∙ ap (λ p. Err (record { place = p; defect = Trailing })) (ap (λ (s : Left). s.place) (sym a.ahead) ∙ sym here);
}
  where
    refused : (xs : List ℕ) → 0 < length xs → (end >>= next) (at old.place (xs ++ told left)) ≡ Err (record { place = old.place; defect = Trailing })
    refused [] h = absurd (omega (arith, h))
    refused (x ∷ xs) h = refl
