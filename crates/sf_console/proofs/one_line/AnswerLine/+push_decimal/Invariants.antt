use Rattle.sf_console.proofs.one_line.AnswerLine.+push_decimal.Given as goal

abbrev pub decreases-push_decimal : goal.decreases-push_decimal
decreases-push_decimal l = l.number
