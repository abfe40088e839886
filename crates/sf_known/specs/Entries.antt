-- The entries of a matrix: the order of dimensions, and the character of an entry (6.1.15.2).
use Rattle.std.specs.Prelude.{ℕ, Bool, true, false}
use Rattle.sf_plane.specs.declared.dim.Dim.{Dim}
use Rattle.sf_plane.specs.declared.dim.Dim.TheVariants.{Nothing, Zero, One, Two}

-- the character of an entry
abbrev pub character_of : Dim → ℕ
character_of Nothing = 70
character_of Zero = 48
character_of One = 49
character_of Two = 50

-- the lesser of two dimensions
abbrev pub lesser_dim : Dim → Dim → Dim
lesser_dim Nothing e = Nothing
lesser_dim Zero Nothing = Nothing
lesser_dim Zero e = Zero
lesser_dim One Two = One
lesser_dim One e = e
lesser_dim Two e = e

-- the first dimension is the greater one
abbrev pub exceeds : Dim → Dim → Bool
exceeds Two Two = false
exceeds Two e = true
exceeds One Nothing = true
exceeds One Zero = true
exceeds Zero Nothing = true
exceeds d e = false
