use denote.Text.{Utf8}
use denote.Shadow.{shadow}
use Rattle.sf_commands.specs.Commands.{value_between}
use Rattle.sf_commands.specs.ValueLists.{listed}
use Rattle.sf_commands.proofs.EachLemmas.{AreMade}
use Rattle.sf_commands.proofs.named_values.values_of.Given as goal

-- of the parts of the text so many spell these values, and those of what is left come behind them
abbrev pub invariant-loop : goal.invariant-loop
invariant-loop l = record {
  text : shadow (Utf8 l.rest);
  named : AreMade value_between (listed l.fn.text) (listed l.rest) l.values.items l.counter;
}
