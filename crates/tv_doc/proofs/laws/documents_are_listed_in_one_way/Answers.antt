use Rattle.std.proofs.Common.{◌≡◌, ◌∙◌, sym, ap, List, [], ℕ}
use Rattle.serde_json.specs.Data.{object}
use Rattle.serde_json.specs.Written.{compact_text}
use Rattle.tv_json.specs.Named.{named_json}
use Rattle.tv_doc.specs.Named.{IsNamed, Named, by_name}
use Rattle.tv_format.specs.Tree.{Document, Tree}
use Rattle.tv_doc.proofs.OneGrouping.{one_grouping}
use Rattle.tv_doc.proofs.laws.documents_are_listed_in_one_way.Goals as goal

one_named : (names : List (List ℕ)) (document : Document) (named other : Named) → IsNamed names document named → IsNamed names document other → named ≡ other
one_named names document named other h k =
    h.2 ∙ ap (λ (groups : List (ℕ × List Tree)). by_name names groups []) (one_grouping document h.0 k.0 h.1 k.1) ∙ sym k.2

pub returns-clause-grouped : goal.returns-clause-grouped
returns-clause-grouped c = one_grouping

pub returns-clause-named : goal.returns-clause-named
returns-clause-named c = one_named

pub returns-clause-printed : goal.returns-clause-printed
returns-clause-printed c = λ names document text other h k. h.2 ∙ ap (λ (named : Named). compact_text (object (named_json named))) (one_named names document h.0 k.0 h.1 k.1) ∙ sym k.2
