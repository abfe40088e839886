use Rattle.std.proofs.Common.{true, sym, subst}
use Rattle.sf_console.specs.Gatherings.{IsUnfed}
use Rattle.sf_console.proofs.GroupLaws.{IsTaken-alone, IsTaken-as, IsUnfed-line}
use Rattle.sf_console.proofs.answering.answer_line.Goals as goal

pub returns-then-is_alone : goal.returns-then-is_alone
returns-then-is_alone c = λ bytes gathering is_buffer unfed is_held.
    let alone = c.is_alone.ensures.outside gathering is_held c.if-is_alone.true in
    IsTaken-alone _ _ gathering _ _ _ _ (c.whole_line-line.ensures bytes is_buffer) alone.0 alone.1 is_held c.answer_single.ensures

pub returns : goal.returns
returns c = λ bytes gathering is_buffer unfed is_held.
    let same = c.whole_line-line.ensures bytes is_buffer in
    let taken = c.take-asks.ensures gathering is_held (subst IsUnfed (sym same) (IsUnfed-line (record { bytes = bytes; ended = true }) unfed)) in
    IsTaken-as _ _ gathering _ _ _ _ same (c.answer_asked.ensures _ taken.1) taken.0
