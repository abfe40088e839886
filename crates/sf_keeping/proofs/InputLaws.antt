-- Lines of what was read.
use Rattle.std.proofs.Common.{◌≡◌, ℕ, ◌+◌, List, [], ◌∷◌, ◌++◌, take, drop, length, sym, ap, ◌∙◌, subst}
use Rattle.std.proofs.Math.Seq.{drop-length}
use Rattle.std.proofs.lemmas.List.{drop-drop}
use Rattle.sf_text_lines.specs.Lines.{HasNoFeed}
use Rattle.sf_text_lines.specs.Buffers.{Buffered, buffered_with}
use Rattle.sf_text_lines.proofs.FeedLemmas.{IsFirstFeed}
use Rattle.sf_keeping.specs.Inputs.{EndsLine, GoesOn}

-- a line feed was found in what is left of a chunk
pub EndsLine-at : (chunk bytes rest front : List ℕ) (line next : Buffered) (start end : ℕ)
    → bytes ≡ chunk → rest ≡ drop start bytes → IsFirstFeed rest end → front ≡ take end rest → next ≡ buffered_with line front
    → EndsLine (record { begun = line; rest = drop start chunk }) (record { begun = next; rest = drop (start + (end + 1)) chunk })
EndsLine-at chunk bytes rest front line next start end same is feed at goes =
    let left : rest ≡ drop start chunk = is ∙ ap (drop start) same in
    record {
      front = take end rest;
      parts = sym left ∙ feed.parts ∙ ap (λ l. (take end rest ++ 10 ∷ []) ++ l) (ap (drop (end + 1)) left ∙ drop-drop (end + 1) start chunk);
      unfed = feed.unfed;
      begun = goes ∙ ap (buffered_with line) at;
    }

-- none was found
pub GoesOn-at : (chunk bytes rest : List ℕ) (line next : Buffered) (start : ℕ)
    → bytes ≡ chunk → rest ≡ drop start bytes → HasNoFeed rest → next ≡ buffered_with line rest
    → GoesOn (record { begun = line; rest = drop start chunk }) (record { begun = next; rest = drop (start + length rest) chunk })
GoesOn-at chunk bytes rest line next start same is unfed goes =
    let left : rest ≡ drop start chunk = is ∙ ap (drop start) same in
    record {
      unfed = subst HasNoFeed left unfed;
      none = sym (drop-drop (length rest) start chunk) ∙ ap (drop (length rest)) (sym left) ∙ drop-length rest;
      begun = goes ∙ ap (buffered_with line) left;
    }
