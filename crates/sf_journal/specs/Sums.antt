-- The sum of a file, of which all bytes are read.
use Rattle.std.specs.Prelude.{◌≡◌, ℕ, List, length, Option}
use Rattle.std.specs.Io.KnownBytes.{Consumes, IsAtEnd}
use Rattle.sha2.specs.Sha256.{sha256}
use Rattle.sf_journal.specs.declared.heads.FileSum.{FileSum}

-- all bytes that were left to read were read, and this is their sum
pub record Sums (unread left : Option (List ℕ)) (sum : FileSum) : Type 0 where
  pub bytes : List ℕ
  pub consumed : Consumes unread left bytes
  pub at_end : IsAtEnd left
  pub size : sum.size ≡ length bytes
  pub digest : sum.digest ≡ sha256 bytes
