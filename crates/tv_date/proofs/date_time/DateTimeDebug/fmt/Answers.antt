use Rattle.std.proofs.Common.{◌≡◌, false, None, rules, ◌∙◌}
use Rattle.tv_date.specs.Printed.{moment_text}
use Rattle.tv_date.proofs.CivilText.{IsPrinted-moment_text, usual}
use Rattle.tv_date.proofs.date_time.DateTimeDebug.fmt.Goals as goal

pub returns : goal.returns
returns g c =
    let shown = c.timestamp_text-printed.ensures in
    let is : c.as_str.result.now ≡ moment_text c.args.self.now.nanoseconds = IsPrinted-moment_text _ _ (shown.0, shown.1 ∙ c.moment.ensures, c.as_str.ensures.value ∙ shown.2 ∙ usual _ (false, 84, None) shown.0 c.new.ensures) in
    search (rules, is)
