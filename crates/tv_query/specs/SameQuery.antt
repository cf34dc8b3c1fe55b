-- When two queries of one text, or two refusals of one, are the same in what counts.
--
-- The words of the laws:
-- `SaySameReason`: the reasons are the same, and of a clause that is refused the errors say the same.
-- `SelectSame`: the clauses are of one field, and want the same terms.
-- `MatchSame`: the queries match the same documents.
use Rattle.std.specs.Prelude.{◌≡◌, ◌↔◌, ℕ, List}
use Rattle.std.specs.List.{AllByRecursion}
use Rattle.tv_indexing.specs.Agree.{FindSame, IsSomeTerm, SaySame}
use Rattle.tv_query.specs.Grammar.{QueryTree}
use Rattle.tv_query.specs.Matching.{Matches}
use Rattle.tv_query.specs.declared.query_error.QueryError.{QueryError}
use Rattle.tv_query.specs.declared.query_error.QueryReason.{QueryReason}
use Rattle.tv_query.specs.declared.query_error.QueryReason.TheVariants.{Clause}
use Rattle.tv_query.specs.declared.selection.Selection.{Selection}

abbrev pub SaySameReason : QueryReason → QueryReason → Type 0
SaySameReason (Clause error) (Clause other) = SaySame error other
SaySameReason reason other = reason ≡ other

-- at one place
abbrev pub SaySameError : QueryError → QueryError → Type 0
SaySameError error other = (error.place ≡ other.place) × SaySameReason error.reason other.reason

abbrev pub SelectSame : Selection → Selection → Type 0
SelectSame selection other = (selection.field ≡ other.field) × (selection.exact ≡ other.exact)
    × FindSame selection.ranges.items other.ranges.items

-- of any terms of a document
abbrev pub MatchSame : QueryTree → QueryTree → Type 0
MatchSame tree other = (terms : List (List ℕ)) → AllByRecursion IsSomeTerm terms
    → Matches terms tree ↔ Matches terms other
