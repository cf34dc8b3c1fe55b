-- A parser's steps: what was read stays a beginning of a query.
use Rattle.std.proofs.Common.{◌≡◌, ◌≢◌, ◌⊎◌, ℕ, zero, ◌+◌, ◌<◌, List, [], ◌∷◌, ◌++◌, refl, sym, subst, ap, ◌∙◌, arith, append_assoc, inl, inr}
use Rattle.std.proofs.lemmas.List.{same_from_push}
use Rattle.std.proofs.lemmas.List.Elements.{Contains-append_left, Contains-append_right}
use Rattle.std.specs.List.{Contains}
use Rattle.tv_field.specs.Entry.{Entry}
use Rattle.tv_query.specs.Grammar.{Level, QueryTree, WritesQuery, all, any, both, either, factor, negation, selecting, steps_of}
use Rattle.tv_query.specs.Grammar.{all_alone, and_of, in_parentheses, not_of, of_clause, one_factor, or_of}
use Rattle.tv_query.specs.Refusals.{HaveOperator}
use Rattle.tv_query.specs.Parsing.{Awaits, EndsWithout, Follows, after_and, after_not, after_open, after_or, at_start}
use Rattle.tv_query.specs.Selections.{Selects}
use Rattle.tv_query.specs.Tokens.{QueryToken, WantedText, and_word, clause, closed, not_word, opened, or_word}
use Rattle.tv_query.specs.declared.parser.Operator.{Operator}
use Rattle.tv_query.specs.declared.parser.Operator.TheVariants.{And, Not, Open, Or}
use Rattle.tv_query.specs.declared.query.Step.{Step}
use Rattle.tv_query.specs.declared.query.Step.TheVariants as steps
use Rattle.tv_query.specs.declared.selection.Selection.{Selection}

pub no_push : {A : Type 0} (xs : List A) (x : A) → [] ≡ xs ++ x ∷ [] → ⊥
no_push [] x e = absurd (cc)
no_push (y ∷ ys) x e = absurd (cc)

-- ---- an operator is taken off

-- an `AND` is taken off
record AndOff (schema : List Entry) (tokens : List QueryToken) (written : List Step) (depth : ℕ) (before : List Operator) : Type 0 where
  pub earlier : List QueryToken
  pub earlier_steps : List Step
  pub operand : List QueryToken
  pub tree : QueryTree
  pub awaits : Awaits schema before earlier earlier_steps depth
  pub without_not : EndsWithout Not before
  pub without_and : EndsWithout And before
  pub writes : WritesQuery schema all operand tree
  pub tokens_are : tokens ≡ earlier ++ (operand ++ and_word ∷ [])
  pub steps_are : written ≡ earlier_steps ++ steps_of tree

-- an `OR` is
record OrOff (schema : List Entry) (tokens : List QueryToken) (written : List Step) (depth : ℕ) (before : List Operator) : Type 0 where
  pub earlier : List QueryToken
  pub earlier_steps : List Step
  pub operand : List QueryToken
  pub tree : QueryTree
  pub awaits : Awaits schema before earlier earlier_steps depth
  pub without_not : EndsWithout Not before
  pub without_and : EndsWithout And before
  pub without_or : EndsWithout Or before
  pub writes : WritesQuery schema any operand tree
  pub tokens_are : tokens ≡ earlier ++ (operand ++ or_word ∷ [])
  pub steps_are : written ≡ earlier_steps ++ steps_of tree

module _ {schema : List Entry} where
  -- a `NOT`
  not_off : (operators : List Operator) (tokens : List QueryToken) (written : List Step) (depth : ℕ) (before : List Operator) → Awaits schema operators tokens written depth → operators ≡ before ++ Not ∷ []
      → (earlier : List QueryToken) × Awaits schema before earlier written depth × (tokens ≡ earlier ++ not_word ∷ [])
  not_off _ _ _ _ before at_start is = absurd (no_push _ _ is)
  not_off _ _ _ _ before (after_open w) is = absurd (cc ((same_from_push _ _ _ _ is).1))
  not_off _ _ _ _ before (after_not {operators = o} {tokens = ts} {steps = ss} {depth = d} w) is = (ts, subst (λ (l : List Operator). Awaits schema l ts ss d) (same_from_push _ _ _ _ is).0 w, refl)
  not_off _ _ _ _ before (after_and operand tree w without_not without_and writes) is = absurd (cc ((same_from_push _ _ _ _ is).1))
  not_off _ _ _ _ before (after_or operand tree w without_not without_and without_or writes) is = absurd (cc ((same_from_push _ _ _ _ is).1))

  -- an `AND`
  and_off : (operators : List Operator) (tokens : List QueryToken) (written : List Step) (depth : ℕ) (before : List Operator) → Awaits schema operators tokens written depth → operators ≡ before ++ And ∷ []
      → AndOff schema tokens written depth before
  and_off _ _ _ _ before at_start is = absurd (no_push _ _ is)
  and_off _ _ _ _ before (after_open w) is = absurd (cc ((same_from_push _ _ _ _ is).1))
  and_off _ _ _ _ before (after_not w) is = absurd (cc ((same_from_push _ _ _ _ is).1))
  and_off _ _ _ _ before (after_and {operators = o} {tokens = ts} {steps = ss} {depth = d} operand tree w without_not without_and writes) is =
      let same = (same_from_push _ _ _ _ is).0 in
      record {
        earlier = ts;
        earlier_steps = ss;
        operand = operand;
        tree = tree;
        awaits = subst (λ (l : List Operator). Awaits schema l ts ss d) same w;
        without_not = subst (EndsWithout Not) same without_not;
        without_and = subst (EndsWithout And) same without_and;
        writes = writes;
        tokens_are = refl;
        steps_are = refl;
      }
  and_off _ _ _ _ before (after_or operand tree w without_not without_and without_or writes) is = absurd (cc ((same_from_push _ _ _ _ is).1))

  -- an `OR`
  or_off : (operators : List Operator) (tokens : List QueryToken) (written : List Step) (depth : ℕ) (before : List Operator) → Awaits schema operators tokens written depth → operators ≡ before ++ Or ∷ []
      → OrOff schema tokens written depth before
  or_off _ _ _ _ before at_start is = absurd (no_push _ _ is)
  or_off _ _ _ _ before (after_open w) is = absurd (cc ((same_from_push _ _ _ _ is).1))
  or_off _ _ _ _ before (after_not w) is = absurd (cc ((same_from_push _ _ _ _ is).1))
  or_off _ _ _ _ before (after_and operand tree w without_not without_and writes) is = absurd (cc ((same_from_push _ _ _ _ is).1))
  or_off _ _ _ _ before (after_or {operators = o} {tokens = ts} {steps = ss} {depth = d} operand tree w without_not without_and without_or writes) is =
      let same = (same_from_push _ _ _ _ is).0 in
      record {
        earlier = ts;
        earlier_steps = ss;
        operand = operand;
        tree = tree;
        awaits = subst (λ (l : List Operator). Awaits schema l ts ss d) same w;
        without_not = subst (EndsWithout Not) same without_not;
        without_and = subst (EndsWithout And) same without_and;
        without_or = subst (EndsWithout Or) same without_or;
        writes = writes;
        tokens_are = refl;
        steps_are = refl;
      }

  -- a `(`
  open_off : (operators : List Operator) (tokens : List QueryToken) (written : List Step) (depth : ℕ) (before : List Operator) → Awaits schema operators tokens written depth → operators ≡ before ++ Open ∷ []
      → (earlier : List QueryToken) × (less : ℕ) × Awaits schema before earlier written less × (tokens ≡ earlier ++ opened ∷ []) × (depth ≡ less + 1)
  open_off _ _ _ _ before at_start is = absurd (no_push _ _ is)
  open_off _ _ _ _ before (after_open {operators = o} {tokens = ts} {steps = ss} {depth = d} w) is = (ts, d, subst (λ (l : List Operator). Awaits schema l ts ss d) (same_from_push _ _ _ _ is).0 w, refl, refl)
  open_off _ _ _ _ before (after_not w) is = absurd (cc ((same_from_push _ _ _ _ is).1))
  open_off _ _ _ _ before (after_and operand tree w without_not without_and writes) is = absurd (cc ((same_from_push _ _ _ _ is).1))
  open_off _ _ _ _ before (after_or operand tree w without_not without_and without_or writes) is = absurd (cc ((same_from_push _ _ _ _ is).1))

  -- no operator waits, or a `(` is last
  last_open : (operators : List Operator) (tokens : List QueryToken) (written : List Step) (depth : ℕ) → Awaits schema operators tokens written depth → EndsWithout Not operators → EndsWithout And operators → EndsWithout Or operators
      → ((operators ≡ []) × (tokens ≡ []) × (written ≡ []) × (depth ≡ 0)) ⊎ ((before : List Operator) × (operators ≡ before ++ Open ∷ []) × (0 < depth))
  last_open _ _ _ _ at_start no_not no_and no_or = inl (refl, refl, refl, refl)
  last_open _ _ _ _ (after_open {operators = o} w) no_not no_and no_or = inr (o, refl, omega arith)
  last_open _ _ _ _ (after_not w) no_not no_and no_or = absurd (no_not _ refl)
  last_open _ _ _ _ (after_and operand tree w without_not without_and writes) no_not no_and no_or = absurd (no_and _ refl)
  last_open _ _ _ _ (after_or operand tree w without_not without_and without_or writes) no_not no_and no_or = absurd (no_or _ refl)

  -- ---- what follows after each step

  module _ {operators before : List Operator} {tokens : List QueryToken} {written : List Step} {depth : ℕ} where
    pub negated : Follows schema factor operators tokens written depth → operators ≡ before ++ Not ∷ [] → Follows schema factor before tokens (written ++ steps.Not ∷ []) depth
    negated f is =
        let off = not_off operators f.before f.before_steps depth before f.awaits is in
        record {
          before = off.0;
          before_steps = f.before_steps;
          operand = not_word ∷ f.operand;
          tree = negation f.tree;
          awaits = off.1;
          writes = not_of f.writes;
          tokens_are = f.tokens_are ∙ ap (λ (l : List QueryToken). l ++ f.operand) off.2 ∙ append_assoc off.0 (not_word ∷ []) f.operand;
          steps_are = ap (λ (l : List Step). l ++ steps.Not ∷ []) f.steps_are ∙ append_assoc f.before_steps (steps_of f.tree) (steps.Not ∷ []);
        }

    pub joined : Follows schema factor operators tokens written depth → operators ≡ before ++ And ∷ [] → Follows schema all before tokens (written ++ steps.And ∷ []) depth × EndsWithout Not before × EndsWithout And before
    joined f is =
        let off = and_off operators f.before f.before_steps depth before f.awaits is in (
          record {
            before = off.earlier;
            before_steps = off.earlier_steps;
            operand = off.operand ++ and_word ∷ f.operand;
            tree = both off.tree f.tree;
            awaits = off.awaits;
            writes = and_of off.writes f.writes;
            tokens_are = f.tokens_are ∙ ap (λ (l : List QueryToken). l ++ f.operand) off.tokens_are ∙ append_assoc off.earlier (off.operand ++ and_word ∷ []) f.operand
                ∙ ap (λ (l : List QueryToken). off.earlier ++ l) (append_assoc off.operand (and_word ∷ []) f.operand);
            steps_are = ap (λ (l : List Step). l ++ steps.And ∷ []) (f.steps_are ∙ ap (λ (l : List Step). l ++ steps_of f.tree) off.steps_are)
                ∙ ap (λ (l : List Step). l ++ steps.And ∷ []) (append_assoc off.earlier_steps (steps_of off.tree) (steps_of f.tree))
                ∙ append_assoc off.earlier_steps (steps_of off.tree ++ steps_of f.tree) (steps.And ∷ [])
                ∙ ap (λ (l : List Step). off.earlier_steps ++ l) (append_assoc (steps_of off.tree) (steps_of f.tree) (steps.And ∷ []));
          },
          off.without_not,
          off.without_and,
        )

    pub parted : Follows schema all operators tokens written depth → operators ≡ before ++ Or ∷ [] → Follows schema any before tokens (written ++ steps.Or ∷ []) depth × EndsWithout Not before × EndsWithout And before × EndsWithout Or before
    parted f is =
        let off = or_off operators f.before f.before_steps depth before f.awaits is in (
          record {
            before = off.earlier;
            before_steps = off.earlier_steps;
            operand = off.operand ++ or_word ∷ f.operand;
            tree = either off.tree f.tree;
            awaits = off.awaits;
            writes = or_of off.writes f.writes;
            tokens_are = f.tokens_are ∙ ap (λ (l : List QueryToken). l ++ f.operand) off.tokens_are ∙ append_assoc off.earlier (off.operand ++ or_word ∷ []) f.operand
                ∙ ap (λ (l : List QueryToken). off.earlier ++ l) (append_assoc off.operand (or_word ∷ []) f.operand);
            steps_are = ap (λ (l : List Step). l ++ steps.Or ∷ []) (f.steps_are ∙ ap (λ (l : List Step). l ++ steps_of f.tree) off.steps_are)
                ∙ ap (λ (l : List Step). l ++ steps.Or ∷ []) (append_assoc off.earlier_steps (steps_of off.tree) (steps_of f.tree))
                ∙ append_assoc off.earlier_steps (steps_of off.tree ++ steps_of f.tree) (steps.Or ∷ [])
                ∙ ap (λ (l : List Step). off.earlier_steps ++ l) (append_assoc (steps_of off.tree) (steps_of f.tree) (steps.Or ∷ []));
          },
          off.without_not,
          off.without_and,
          off.without_or,
        )

    pub enclosed : Follows schema any operators tokens written depth → operators ≡ before ++ Open ∷ [] → (less : ℕ) × Follows schema factor before (tokens ++ closed ∷ []) written less
    enclosed f is =
        let off = open_off operators f.before f.before_steps depth before f.awaits is in (
          off.1,
          record {
            before = off.0;
            before_steps = f.before_steps;
            operand = opened ∷ (f.operand ++ closed ∷ []);
            tree = f.tree;
            awaits = off.2;
            writes = in_parentheses f.writes;
            tokens_are = ap (λ (l : List QueryToken). l ++ closed ∷ []) (f.tokens_are ∙ ap (λ (l : List QueryToken). l ++ f.operand) off.3 ∙ append_assoc off.0 (opened ∷ []) f.operand)
                ∙ append_assoc off.0 (opened ∷ f.operand) (closed ∷ []);
            steps_are = f.steps_are;
          },
        )

  module _ {operators : List Operator} {tokens : List QueryToken} {written : List Step} {depth : ℕ} where
    pub as_all : Follows schema factor operators tokens written depth → Follows schema all operators tokens written depth
    as_all f = record { before = f.before; before_steps = f.before_steps; operand = f.operand; tree = f.tree; awaits = f.awaits; writes = one_factor f.writes; tokens_are = f.tokens_are; steps_are = f.steps_are }

    pub as_any : Follows schema all operators tokens written depth → Follows schema any operators tokens written depth
    as_any f = record { before = f.before; before_steps = f.before_steps; operand = f.operand; tree = f.tree; awaits = f.awaits; writes = all_alone f.writes; tokens_are = f.tokens_are; steps_are = f.steps_are }

    pub waits_and : Follows schema all operators tokens written depth → EndsWithout Not operators → EndsWithout And operators → Awaits schema (operators ++ And ∷ []) (tokens ++ and_word ∷ []) written depth
    waits_and f no_not no_and =
        subst (λ (l : List QueryToken). Awaits schema (operators ++ And ∷ []) l written depth) (sym (ap (λ (l : List QueryToken). l ++ and_word ∷ []) f.tokens_are ∙ append_assoc f.before f.operand (and_word ∷ [])))
        (subst (λ (l : List Step). Awaits schema (operators ++ And ∷ []) (f.before ++ (f.operand ++ and_word ∷ [])) l depth) (sym f.steps_are)
        (after_and f.operand f.tree f.awaits no_not no_and f.writes))

    pub waits_or : Follows schema any operators tokens written depth → EndsWithout Not operators → EndsWithout And operators → EndsWithout Or operators → Awaits schema (operators ++ Or ∷ []) (tokens ++ or_word ∷ []) written depth
    waits_or f no_not no_and no_or =
        subst (λ (l : List QueryToken). Awaits schema (operators ++ Or ∷ []) l written depth) (sym (ap (λ (l : List QueryToken). l ++ or_word ∷ []) f.tokens_are ∙ append_assoc f.before f.operand (or_word ∷ [])))
        (subst (λ (l : List Step). Awaits schema (operators ++ Or ∷ []) (f.before ++ (f.operand ++ or_word ∷ [])) l depth) (sym f.steps_are)
        (after_or f.operand f.tree f.awaits no_not no_and no_or f.writes))

    pub selected : (path : List ℕ) (wanted : WantedText) (selection : Selection) → Selects schema path wanted selection → Awaits schema operators tokens written depth
        → Follows schema factor operators (tokens ++ clause path wanted ∷ []) (written ++ steps.Clause selection ∷ []) depth
    selected path wanted selection selects awaits = record {
      before = tokens;
      before_steps = written;
      operand = clause path wanted ∷ [];
      tree = selecting selection;
      awaits = awaits;
      writes = of_clause selects;
      tokens_are = refl;
      steps_are = refl;
    }

    -- ---- at the end

    pub finished : Follows schema any operators tokens written depth → EndsWithout Not operators → EndsWithout And operators → EndsWithout Or operators → operators ≡ [] → (tree : QueryTree) × WritesQuery schema any tokens tree × (written ≡ steps_of tree)
    finished f no_not no_and no_or none =
        elim (last_open operators f.before f.before_steps depth f.awaits no_not no_and no_or) [
          | inl w ↦ (f.tree, subst (λ (l : List QueryToken). WritesQuery schema any l f.tree) (sym (f.tokens_are ∙ ap (λ (l : List QueryToken). l ++ f.operand) w.1)) f.writes, f.steps_are ∙ ap (λ (l : List Step). l ++ steps_of f.tree) w.2)
          | inr w ↦ absurd (no_push w.0 Open (sym none ∙ w.1))
        ]

    pub is_open : Follows schema any operators tokens written depth → EndsWithout Not operators → EndsWithout And operators → EndsWithout Or operators → operators ≢ [] → 0 < depth
    is_open f no_not no_and no_or some =
        elim (last_open operators f.before f.before_steps depth f.awaits no_not no_and no_or) [ inl w ↦ absurd (some w.0) | inr w ↦ w.2 ]

    pub none_open : Follows schema any operators tokens written depth → EndsWithout Not operators → EndsWithout And operators → EndsWithout Or operators → EndsWithout Open operators → depth ≡ 0
    none_open f no_not no_and no_or no_open =
        elim (last_open operators f.before f.before_steps depth f.awaits no_not no_and no_or) [ inl w ↦ w.3 | inr w ↦ absurd (no_open w.0 w.1) ]

  -- ---- which operators stand among the tokens

  pub has_and : (level : Level) (operators before : List Operator) (tokens : List QueryToken) (written : List Step) (depth : ℕ) → Follows schema level operators tokens written depth → operators ≡ before ++ And ∷ [] → HaveOperator tokens
  has_and level operators before tokens written depth f is =
      let off = and_off operators f.before f.before_steps depth before f.awaits is in
      let last = Contains-append_right off.operand (and_word ∷ []) and_word (zero, omega arith, refl) in
      let within = subst (λ (l : List QueryToken). Contains l and_word) (sym off.tokens_are) (Contains-append_right off.earlier (off.operand ++ and_word ∷ []) and_word last) in
      inl (subst (λ (l : List QueryToken). Contains l and_word) (sym f.tokens_are) (Contains-append_left f.before f.operand and_word within))

  pub has_or : (level : Level) (operators before : List Operator) (tokens : List QueryToken) (written : List Step) (depth : ℕ) → Follows schema level operators tokens written depth → operators ≡ before ++ Or ∷ [] → HaveOperator tokens
  has_or level operators before tokens written depth f is =
      let off = or_off operators f.before f.before_steps depth before f.awaits is in
      let last = Contains-append_right off.operand (or_word ∷ []) or_word (zero, omega arith, refl) in
      let within = subst (λ (l : List QueryToken). Contains l or_word) (sym off.tokens_are) (Contains-append_right off.earlier (off.operand ++ or_word ∷ []) or_word last) in
      inr (subst (λ (l : List QueryToken). Contains l or_word) (sym f.tokens_are) (Contains-append_left f.before f.operand or_word within))

  pub some_open : (level : Level) (operators before : List Operator) (tokens : List QueryToken) (written : List Step) (depth : ℕ) → Follows schema level operators tokens written depth → operators ≡ before ++ Open ∷ [] → depth ≡ 0 → ⊥
  some_open level operators before tokens written depth f is none =
      let off = open_off operators f.before f.before_steps depth before f.awaits is in omega (arith, off.4, none)
