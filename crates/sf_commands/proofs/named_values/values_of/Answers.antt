use Rattle.std.proofs.Common.{false, rules}
use Rattle.sf_commands.specs.Commands.{value_between}
use Rattle.sf_commands.specs.ValueLists.{listed}
use Rattle.sf_commands.proofs.EachLemmas.{one_made}
use Rattle.sf_commands.proofs.ValueListLemmas.{some_part}
use Rattle.sf_commands.proofs.named_values.values_of.Goals as goal

pub loop-preserved : goal.loop-preserved
loop-preserved c =
    let l = c.loop in
    let more = c.in-Some.more.now in
    let pushed = c.in_ok-push_value-2.ensures in
    record {
      text = search rules;
      named =
          one_made value_between (listed c.args.text.now) (listed l.rest.now) (listed more) l.values.items c.push_value-in-loop.new.values.items l.counter c.in-Some.part.now pushed.0
          l.invariant.named c.in-Some.ensures pushed.1 pushed.2 (some_part false more);
    }
