-- Internal: who wants to trust the program need not read this file.
-- What was read, and not carried out yet.
use Rattle.std.specs.Prelude.{◌≡◌, ℕ, List, [], ◌∷◌, ◌++◌}
use Rattle.sf_text_lines.specs.Lines.{HasNoFeed}
use Rattle.sf_text_lines.specs.Buffers.{Buffered, nothing_buffered, buffered_with}

-- what the line has that is begun, and what was read behind it
pub record Ahead : Type 0 where
  pub begun : Buffered
  pub rest : List ℕ

-- a new line begins
abbrev pub with_new_line : Ahead → Ahead
with_new_line ahead = record ahead { begun = nothing_buffered }

-- the line that is begun ends in what was read
pub record EndsLine (old new : Ahead) : Type 0 where
  pub front : List ℕ
  pub parts : old.rest ≡ (front ++ 10 ∷ []) ++ new.rest
  pub unfed : HasNoFeed front
  pub begun : new.begun ≡ buffered_with old.begun front

-- it does not, and has all that was read
pub record GoesOn (old new : Ahead) : Type 0 where
  pub unfed : HasNoFeed old.rest
  pub none : new.rest ≡ []
  pub begun : new.begun ≡ buffered_with old.begun old.rest
