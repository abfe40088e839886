use Rattle.std.proofs.Common.{codes, string_bytes, ◌++◌, rules}
use Rattle.sf_console.specs.RuleRows.{list_words}
use Rattle.sf_console.proofs.RowLemmas.{values-more}
use Rattle.sf_console.proofs.rules.push_list.Goals as goal

pub loop-value-preserved : goal.loop-value-preserved
loop-value-preserved c =
    let l = c.loop-value in
    let values = c.args.values.now in
    record {
      text = search rules;
      pushed =
          values-more values l.value-index c.value-item.result l.before.now (string_bytes l.text) (string_bytes c.push_str.new.self) (string_bytes c.push_value.new.text)
          (string_bytes c.args.text.now ++ list_words (codes " ") values) c.loop-value-test.true c.value-item.is l.invariant.pushed c.in_ok-push_str.ensures.bytes c.in_ok-push_value.ensures;
    }
