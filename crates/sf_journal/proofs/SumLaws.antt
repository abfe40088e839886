-- From read to read of a file whose sum is taken.
use Rattle.std.proofs.Common.{◌≡◌, ℕ, ◌*◌, ◌≤◌, List, length, Option}
use Rattle.std.specs.Io.KnownBytes.{Consumes}
use Rattle.sha2.specs.declared.Sha256.{Sha256}
use Rattle.sha2.specs.Hashers.{Holds256}

-- so much was read and hashed, in so many reads at most
pub record Summed (unread left : Option (List ℕ)) (hasher : Sha256) (size reads : ℕ) : Type 0 where
  pub bytes : List ℕ
  pub consumed : Consumes unread left bytes
  pub holds : Holds256 hasher bytes
  pub length_is : size ≡ length bytes
  pub few : size ≤ reads * 65536
