use Rattle.std.proofs.Common.{◌≡◌, ◌++◌, drop}
use Rattle.sf_values.specs.Escapes.{unescaped}
use Rattle.sf_values.specs.declared.state.State.TheVariants.{Plain}
use Rattle.sf_values.proofs.unescaping.unescaped.Given as goal

-- what was told, and what the rest tells, are the whole
abbrev pub invariant-loop-byte : goal.invariant-loop-byte
invariant-loop-byte l = l.text.items ++ unescaped l.state (drop l.byte-index l.bytes) ≡ unescaped Plain l.bytes
