use Rattle.std.proofs.Common.{◌+◌, List, ℕ, MatchOption, drop, length, sym, ◌∙◌, subst}
use Rattle.sf_text_lines.specs.Lines.{HasNoFeed}
use Rattle.sf_text_lines.proofs.FeedLemmas.{IsFirstFeed, position-feed}
use Rattle.sf_keeping.specs.Inputs.{EndsLine, GoesOn}
use Rattle.sf_keeping.proofs.InputLaws.{EndsLine-at, GoesOn-at}
use Rattle.sf_keeping.proofs.input.Input.end_line.Goals as goal

pub returns-in-Some-clause-ends : goal.returns-in-Some-clause-ends
returns-in-Some-clause-ends c = λ _.
    let rest : List ℕ = c.split_at.result.1.now in
    let feed : IsFirstFeed rest c.in-Some.end =
    subst (λ r. MatchOption r (HasNoFeed rest) (IsFirstFeed rest)) (sym c.line_feed.ensures ∙ c.in-Some.is) (position-feed rest) in
    subst (λ o. EndsLine o (record { begun = c.extend.new.self; rest = drop (c.self.inside.start + (c.in-Some.end + 1)) c.self.inside.chunk })) c.self.view_is
    (EndsLine-at c.self.inside.chunk c.as_bytes.result.now rest c.split_at-in-Some.result.0.now c.self.inside.line c.extend.new.self c.self.inside.start c.in-Some.end
    c.as_bytes.ensures.bytes c.split_at.ensures.back feed c.split_at-in-Some.ensures.front c.extend.ensures)

pub returns-in-None-clause-goes_on : goal.returns-in-None-clause-goes_on
returns-in-None-clause-goes_on c = λ _.
    let rest : List ℕ = c.split_at.result.1.now in
    let none : HasNoFeed rest =
    subst (λ r. MatchOption r (HasNoFeed rest) (IsFirstFeed rest)) (sym c.line_feed.ensures ∙ c.in-None.is) (position-feed rest) in
    subst (λ o. GoesOn o (record { begun = c.extend-in-None.new.self; rest = drop (c.self.inside.start + length rest) c.self.inside.chunk })) c.self.view_is
    (GoesOn-at c.self.inside.chunk c.as_bytes.result.now rest c.self.inside.line c.extend-in-None.new.self c.self.inside.start
    c.as_bytes.ensures.bytes c.split_at.ensures.back none c.extend-in-None.ensures)
