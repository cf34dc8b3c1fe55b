use Rattle.std.proofs.Common.{◌≡◌, subst, sym, rules, string_bytes}
use Rattle.tv_date.specs.Printed.{IsPrinted, moment_text}
use Rattle.tv_date.proofs.date_time.DateTime.write_rfc3339.Goals as goal

pub returns-clause-shown : goal.returns-clause-shown
returns-clause-shown c =
    let is : string_bytes c.push_rfc3339.new.text ≡ moment_text c.args.self.nanoseconds = search rules in
    subst (IsPrinted c.args.self.nanoseconds) (sym is) c.push_rfc3339.ensures.shown
