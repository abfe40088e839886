-- Internal: who wants to trust the program need not read this file.
-- Numbers that are made of values, and the order by them.
use Rattle.std.specs.Prelude.{ℕ, ◌+◌, ◌*◌, ◌%◌, ◌^◌, List, [], ◌∷◌}
use Rattle.std.specs.Ordering.{nat_cmp, on, then_cmp}
use Rattle.std.specs.declared.cmp.Ordering.{Ordering}
use Rattle.sf_features.specs.declared.attr_value.AttrValue.{AttrValue}
use Rattle.sf_features.specs.declared.attr_value.AttrValue.TheVariants.{Text}
use Rattle.sf_layers.specs.ValueIndexes.{key, key_cmp}
use Rattle.sf_rules.specs.declared.digested.Digested.{Digested}

-- the number with a byte more
abbrev pub digest_on : ℕ → ℕ → ℕ
digest_on digest byte = (digest * 1099511628211 % 2 ^ 64 + byte) % 2 ^ 64

-- and with several
unfoldable pub digest_from : ℕ → List ℕ → ℕ
digest_from digest [] = digest
digest_from digest (byte ∷ bytes) = digest_from (digest_on digest byte) bytes

-- the number of a value
abbrev pub digest_of : AttrValue → ℕ
digest_of (Text bytes) = digest_from 0 bytes
digest_of value = 0

-- a value with an identifier, and its number
abbrev pub digested : AttrValue → ℕ → Digested
digested value id = record { digest = digest_of value; key = key value id }

-- the order by numbers, then by value and identifier
abbrev pub digested_cmp : Digested → Digested → Ordering
digested_cmp = then_cmp (on (λ d. d.digest) nat_cmp) (on (λ d. d.key) key_cmp)
