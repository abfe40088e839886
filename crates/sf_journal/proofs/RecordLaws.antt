-- Marks and records: how long they are, and that a line is the record of one text at most.
use Rattle.std.proofs.Common.{◌≡◌, ℕ, ◌<◌, List, ◌∷◌, length, take, drop, ◌+◌, [], sym, ap, ◌∙◌, arith}
use Rattle.std.proofs.lemmas.List.{length-append}
use Rattle.std.proofs.Math.Seq.{drop-append_seam, take-append_seam}
use Rattle.std.specs.Int.{w64, to_be_bytes}
use Rattle.hex.specs.Hex.{encode_lower}
use Rattle.hex.proofs.HexLemmas.{length-encode_with}
use Rattle.sf_journal.specs.Records.{sum_with, mark_of, line_of}

-- a mark has 17 bytes
pub length-mark : (sum : ℕ) (text : List ℕ) → length (mark_of (sum_with sum text)) ≡ 17
length-mark sum text =
    let bytes = to_be_bytes w64 (sum_with sum text) in
    length-append (encode_lower bytes) (32 ∷ []) ∙ ap (λ n. n + 1) (length-encode_with _ bytes)

-- a line that is too short for a mark is no record
pub short-line : (sum : ℕ) (line text : List ℕ) → length line < 17 → line ≡ line_of sum text → ⊥
short-line sum line text short is =
    let long : length line ≡ 17 + length text = ap length is ∙ length-append (mark_of (sum_with sum text)) text ∙ ap (λ n. n + length text) (length-mark sum text) in
    omega (arith, short, long)

-- the mark of a record stands at its front
pub take-line : (sum : ℕ) (line text : List ℕ) → line ≡ line_of sum text → take 17 line ≡ mark_of (sum_with sum text)
take-line sum line text is =
    ap (take 17) is ∙ ap (λ n. take n (line_of sum text)) (sym (length-mark sum text)) ∙ take-append_seam (mark_of (sum_with sum text)) text

-- the text of a record stands behind its mark
pub drop-line : (sum : ℕ) (line text : List ℕ) → line ≡ line_of sum text → drop 17 line ≡ text
drop-line sum line text is =
    ap (drop 17) is ∙ ap (λ n. drop n (line_of sum text)) (sym (length-mark sum text)) ∙ drop-append_seam (mark_of (sum_with sum text)) text
