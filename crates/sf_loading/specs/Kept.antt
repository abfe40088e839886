-- Internal: who wants to trust the program need not read this file.
-- Rules that are read and added one after another.
use Rattle.std.specs.Prelude.{◌≡◌, ℕ, false, true, List, Option, Result, Ok, Err, IsTrue}
use Rattle.sf_features.specs.Names.{is_name}
use Rattle.sf_format.specs.Stored.{Refusal, Rule, Ruled, has_named, has_rule, with_rule}
use Rattle.sf_format.specs.Stored.refusals as refusals
use Rattle.sf_streams.specs.Streams.{Left}
use Rattle.sf_format.specs.declared.version.Version.{Version}
use Rattle.sf_format.specs.declared.defect.Defect.TheVariants.{RuleBroken}
use Rattle.sf_format.specs.Format.{held_rule}
use Rattle.sf_loading.specs.declared.halt.Halt.{Halt}
use Rattle.sf_loading.specs.declared.halt.Halt.TheVariants as halts
use Rattle.sf_loading.specs.Streaming.{Ends, Takes}

-- a rule has a name that no other one has, and all that it names is there: it is added, unless it is broken
pub record CanBeAdded (ruled : Ruled) (rule : Rule) : Type 0 where
  pub named : IsTrue (is_name rule.name)
  pub free : has_rule rule.name ruled.rules ≡ false
  pub there : has_named ruled.content rule ≡ true

-- why reading ended where such a rule is refused
abbrev pub halt_of : ℕ → Refusal → Halt
halt_of place refusals.Memory = halts.Memory
halt_of place refusal = halts.Found place RuleBroken

-- a rule was read and added, or reading ended before
abbrev pub GivesRule : Version → Ruled → Ruled → Option (List ℕ) → Option (List ℕ) → Left → Left → Result (Unit {0}) Halt → Type 0
GivesRule version before after unread_before unread old new (Ok done) =
    (rule : Rule) × Takes (held_rule version before.content before.rules) rule unread_before unread old new × (after ≡ with_rule before rule)
GivesRule version before after unread_before unread old new (Err halt) = Ends (held_rule version before.content before.rules) unread_before unread old halt
