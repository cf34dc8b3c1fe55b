use Rattle.std.proofs.Common.{◌≡◌, false, None, subst, rules, ◌∙◌}
use Rattle.tv_date.specs.Printed.{IsPrinted, moment_text}
use Rattle.tv_date.proofs.CivilText.{IsPrinted-moment_text, usual}
use Rattle.tv_date.proofs.date_time.DateTime.push_rfc3339.Goals as goal

pub returns-clause-shown : goal.returns-clause-shown
returns-clause-shown c =
    let shown = c.timestamp_text-printed.ensures in
    let is : IsPrinted c.args.self.nanoseconds c.as_str.result.now = (shown.0, shown.1 ∙ c.moment.ensures, c.as_str.ensures.value ∙ shown.2 ∙ usual _ (false, 84, None) shown.0 c.new.ensures) in
    subst (IsPrinted c.args.self.nanoseconds) (IsPrinted-moment_text _ _ is) is

pub returns-clause-ok : goal.returns-clause-ok
returns-clause-ok c =
    let shown = c.timestamp_text-printed.ensures in
    let is : c.as_str.result.now ≡ moment_text c.args.self.nanoseconds = IsPrinted-moment_text _ _ (shown.0, shown.1 ∙ c.moment.ensures, c.as_str.ensures.value ∙ shown.2 ∙ usual _ (false, 84, None) shown.0 c.new.ensures) in
    search (rules, is)
