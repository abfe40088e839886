use Rattle.std.proofs.Common.{◌≡◌, ◌/◌, ◌%◌, List, ℕ, string_bytes, OnOk, subst}
use Rattle.sf_dates.specs.Texts.{date_text, second_text, millisecond_text}
use Rattle.sf_dates.proofs.Moments.{joined}
use Rattle.sf_dates.proofs.writing.push_moment.Goals as goal

pub returns : goal.returns
returns c =
    let t = c.args.datetime.now in
    subst (λ (whole : List ℕ). OnOk c.push_millisecond.result (string_bytes c.push_millisecond.new.text ≡ whole))
    (joined (string_bytes c.args.text.now) (string_bytes c.push_day.new.text) (string_bytes c.push_second.new.text)
    (date_text t.date) (second_text (t.millisecond / 1000)) (millisecond_text (t.millisecond % 1000))
    c.in_ok-push_day.ensures c.in_ok-push_second.ensures)
    c.push_millisecond.ensures
