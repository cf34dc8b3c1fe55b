use Rattle.std.proofs.Common.{rules, ◌≢◌, codes}
use Rattle.tv_indexing.proofs.RangeSteps.{IsParted, as_split, both_ends, not_parted, wrong_end, wrong_start}
use Rattle.tv_indexing.proofs.text_range.bounds_of_text.Goals as goal

pub returns-in_default : goal.returns-in_default
returns-in_default c =
    let not_all : c.args.text.now ≢ codes "*" = search rules in
    not_parted c.args.text.now c.in_default.ensures.cases not_all

pub returns-in_default-start_of_range : goal.returns-in_default-start_of_range
returns-in_default-start_of_range c =
    let not_all : c.args.text.now ≢ codes "*" = search rules in
    let s = c.in-Some.ensures.cases in
    let parted : IsParted c.args.text.now c.in-Some.before.now c.in-Some.behind.now = as_split c.args.text.now (c.in-Some.before, c.in-Some.behind) s.0 s.1 s.2 s.3 s.4 s.6 in
    wrong_start c.args.text.now c.in-Some.before.now c.in-Some.behind.now parted not_all c.in_default-start_of_range.ensures

pub returns-in-Some-end_of_range : goal.returns-in-Some-end_of_range
returns-in-Some-end_of_range c =
    let s = c.in-Some.ensures.cases in
    let parted : IsParted c.args.text.now c.in-Some.before.now c.in-Some.behind.now = as_split c.args.text.now (c.in-Some.before, c.in-Some.behind) s.0 s.1 s.2 s.3 s.4 s.6 in
    both_ends c.args.text.now c.in-Some.before.now c.in-Some.behind.now _ _ parted c.in-Some-start_of_range.ensures c.in-Some-end_of_range.ensures

pub returns-in-None : goal.returns-in-None
returns-in-None c =
    let not_all : c.args.text.now ≢ codes "*" = search rules in
    let s = c.in-Some.ensures.cases in
    let parted : IsParted c.args.text.now c.in-Some.before.now c.in-Some.behind.now = as_split c.args.text.now (c.in-Some.before, c.in-Some.behind) s.0 s.1 s.2 s.3 s.4 s.6 in
    wrong_end c.args.text.now c.in-Some.before.now c.in-Some.behind.now parted not_all c.in-None.ensures
