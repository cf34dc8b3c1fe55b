-- Terms that a visitor takes, one thing after the other.
use Rattle.std.proofs.Common.{◌≡◌, ℕ, List, [], ◌++◌, Ok, Err, refl, sym, subst, ap, ◌∙◌, append_assoc, append-nil}
use Rattle.tv_indexing.proofs.Following.{nothing_before, regrouped}
use Rattle.tv_indexing.specs.DocumentTerms.{AreAppended, Terms, followed_by}
use Rattle.tv_indexing.specs.JsonWalk.{ExtendsPath}
use Rattle.tv_indexing.specs.Visits.{TakesTerms, TakesAll, TakesSome}
use Rattle.tv_indexing.specs.declared.document.TermValuesError.{TermValuesError}

module _ {V : Type 0} (HasTaken : V → V → List (List ℕ) → Type 0) where
  pub takes_none : (old new : V) → new ≡ old → TakesTerms HasTaken old new []
  takes_none old new is = λ start terms before.
      subst (λ (ts : List (List ℕ)). HasTaken start new ts) (sym (append-nil terms)) (subst (λ (v : V). HasTaken start v terms) (sym is) before)

  takes_on : (a b c : V) (first more : List (List ℕ)) → TakesTerms HasTaken a b first → TakesTerms HasTaken b c more → TakesTerms HasTaken a c (first ++ more)
  takes_on a b c first more h k = λ start terms before. subst (λ (ts : List (List ℕ)). HasTaken start c ts) (append_assoc terms first more) (k start (terms ++ first) (h start terms before))

  pub some_on : (a b c : V) → TakesSome HasTaken a b → TakesSome HasTaken b c → TakesSome HasTaken a c
  some_on a b c h k = (h.0 ++ k.0, takes_on a b c h.0 k.0 h.1 k.1)

  -- ---- so far: the whole is what was taken, and then what is left

  abbrev pub Taken : V → V → Terms → Terms → Type 0
  Taken old now whole left = (done : List (List ℕ)) × (whole ≡ followed_by (Ok done) left) × TakesTerms HasTaken old now done

  pub taken_none : (now : V) (whole : Terms) → Taken now now whole whole
  taken_none now whole = ([], sym (nothing_before whole), takes_none now now refl)

  pub taken_more : (old now new : V) (whole left first rest : Terms) → left ≡ followed_by first rest → TakesAll HasTaken now new first → Taken old now whole left → Taken old new whole rest
  taken_more old now new whole left (Ok made) rest is h t =
      (t.0 ++ made, t.1 ∙ ap (followed_by (Ok t.0)) is ∙ sym (regrouped (Ok t.0) (Ok made) rest), takes_on old now new t.0 made t.2 h)
  taken_more old now new whole left (Err e) rest is h t = absurd h

  pub taken_all : (old now : V) (whole left : Terms) → left ≡ Ok [] → Taken old now whole left → TakesAll HasTaken old now whole
  taken_all old now whole left is t =
      let same : whole ≡ Ok t.0 = t.1 ∙ ap (followed_by (Ok t.0)) is ∙ ap Ok (append-nil t.0) in
      subst (TakesAll HasTaken old now) (sym same) t.2

  pub taken_refused : (old now : V) (whole left rest : Terms) (e : TermValuesError) → left ≡ followed_by (Err e) rest → Taken old now whole left → whole ≡ Err e
  taken_refused old now whole left rest e is t = t.1 ∙ ap (followed_by (Ok t.0)) is

  pub taken_some : (old now new : V) (whole left : Terms) → TakesSome HasTaken now new → Taken old now whole left → TakesSome HasTaken old new
  taken_some old now new whole left h t = some_on old now new (t.0, t.2) h

-- ---- a list

abbrev pub BeginsWith : List (List ℕ) → List (List ℕ) → List (List ℕ) → Type 0
BeginsWith start list terms = list ≡ start ++ terms

pub all_appended : (old new : List (List ℕ)) (t : Terms) → TakesAll BeginsWith old new t → AreAppended old new t
all_appended old new (Ok made) h = h old [] (sym (append-nil old))
all_appended old new (Err e) h = absurd h

pub none_appended : (old new : List (List ℕ)) → TakesTerms BeginsWith old new [] → new ≡ old
none_appended old new h = h old [] (sym (append-nil old)) ∙ append-nil old

pub some_appended : (old new : List (List ℕ)) → TakesSome BeginsWith old new → ExtendsPath old new
some_appended old new h = (h.0, h.1 old [] (sym (append-nil old)))
