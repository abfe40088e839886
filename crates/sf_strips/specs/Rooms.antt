-- Internal: who wants to trust the program need not read this file.
-- Room for the parts of a column and for what goes on from it.
use Rattle.std.specs.Prelude.{ℕ, ◌+◌, ◌≤◌, ◌<◌, vec_capacity, vec_len}
use Rattle.sf_strips.specs.declared.cut.Cut.{Cut}

-- there is room for so many levels, and for so many edges that go on
pub record HasRoom (levels edges : ℕ) (c : Cut) : Type 0 where
  pub parts : levels ≤ vec_capacity c.parts
  pub order : edges ≤ vec_capacity c.order
  pub contacts : edges ≤ vec_capacity c.contacts
  pub segment : edges ≤ vec_capacity c.segment

-- there is room for a further part, and for so many further edges
pub record HasRoomFor (n : ℕ) (c : Cut) : Type 0 where
  pub parts : vec_len c.parts < vec_capacity c.parts
  pub order : vec_len c.order + n ≤ vec_capacity c.order
  pub contacts : vec_len c.order + n ≤ vec_capacity c.contacts
  pub segment : n ≤ vec_capacity c.segment

-- no room is given back
pub record KeepsRoom (old new : Cut) : Type 0 where
  pub parts : vec_capacity old.parts ≤ vec_capacity new.parts
  pub order : vec_capacity old.order ≤ vec_capacity new.order
  pub contacts : vec_capacity old.contacts ≤ vec_capacity new.contacts
  pub segment : vec_capacity old.segment ≤ vec_capacity new.segment
