-- The number of bytes, byte by byte.
use Rattle.std.proofs.Common.{◌≡◌, ◌∙◌, ℕ, ◌+◌, ◌<◌, ◌≤◌, List, ◌∷◌, drop, get_or, length, ap, sym}
use Rattle.std.proofs.lemmas.List.{drop_all, drop_more}
use Rattle.sf_rules.specs.Digests.{digest_from, digest_on}

-- one byte more
pub digested-more : (bytes : List ℕ) (i d item digest whole : ℕ) → i < length bytes → item ≡ get_or bytes i d → digest_from digest (drop i bytes) ≡ whole
    → digest_from (digest_on digest item) (drop (i + 1) bytes) ≡ whole
unfolding digest_from
digested-more bytes i d item digest whole within is invariant =
    ap (λ b. digest_from digest (b ∷ drop (i + 1) bytes)) is ∙ ap (digest_from digest) (sym (drop_more bytes i d within)) ∙ invariant

-- none left
pub all-digested : (bytes : List ℕ) (i digest whole : ℕ) → length bytes ≤ i → digest_from digest (drop i bytes) ≡ whole → digest ≡ whole
unfolding digest_from
all-digested bytes i digest whole past invariant = ap (digest_from digest) (sym (drop_all i bytes past)) ∙ invariant
