-- Streams of bytes: what is left of one that is read from left to right, and what was put on its way to a writer, in
-- the words of `Read` and `Write` for the bytes that they tell.
use Rattle.std.specs.Prelude.{◌≡◌, ℕ, ◌+◌, List, [], ◌++◌, drop, Option, IfSome}
use Rattle.std.specs.Io.KnownBytes.{Appends, Consumes}

-- the bytes that are left to read, and the place of the first of them in the whole stream
pub record Left : Type 0 where
  pub place : ℕ
  pub bytes : List ℕ

-- no byte was read yet
abbrev pub nothing_ahead : Left
nothing_ahead = record { place = 0; bytes = [] }

-- how many bytes can be looked at together
abbrev pub ahead_max : ℕ
ahead_max = 2097152

-- what is left after so many bytes
abbrev pub without_front : ℕ → Left → Left
without_front count left = record { place = left.place + count; bytes = drop count left.bytes }

-- these bytes are left, where the reader tells what is left
abbrev pub AreLeft : Option (List ℕ) → List ℕ → Type 0
AreLeft unread rest = IfSome unread (λ known. known ≡ rest)

-- some bytes were read, and stand behind those that were read ahead
pub record ReadsAhead (unread_before unread : Option (List ℕ)) (old new : Left) : Type 0 where
  pub got : List ℕ
  pub consumed : Consumes unread_before unread got
  pub ahead : new ≡ record old { bytes = old.bytes ++ got }

-- some bytes were read
abbrev pub Loses : Option (List ℕ) → Option (List ℕ) → Type 0
Loses unread_before unread = (got : List ℕ) × Consumes unread_before unread got

-- a text was taken from the front: what `before` says of the text and whatever follows it, `after` says of what follows
pub record Goes {R : Type 0} (before after : Left → R) (unread_before unread : Option (List ℕ)) (old new : Left) : Type 0 where
  pub text : List ℕ
  pub got : List ℕ
  pub consumed : Consumes unread_before unread got
  pub parts : old.bytes ++ got ≡ text ++ new.bytes
  pub reads : (rest : List ℕ) → before (record { place = old.place; bytes = text ++ rest }) ≡ after (record { place = new.place; bytes = rest })

-- a text was put behind bytes that were held; some bytes were sent, and the others are held
pub record Puts (written_before written : Option (List ℕ)) (held holds text : List ℕ) : Type 0 where
  pub sent : List ℕ
  pub appended : Appends written_before written sent
  pub parts : held ++ text ≡ sent ++ holds

-- a front of the text was written
pub record WritesFront (written_before written : Option (List ℕ)) (text : List ℕ) : Type 0 where
  pub sent : List ℕ
  pub unsent : List ℕ
  pub parts : text ≡ sent ++ unsent
  pub appended : Appends written_before written sent
