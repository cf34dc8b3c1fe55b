-- Keys that name fields, each once, and the fields that they named.
use Rattle.std.proofs.Common.{◌≡◌, ◌≢◌, ℕ, zero, suc, Bool, true, false, List, [], ◌∷◌, ◌++◌, length, get_or, set, Option, Some, None, refl, sym, ap, ◌∙◌, subst, arith, inl, inr, ⊎_elim}
use Rattle.std.specs.Prelude.{◌⊎◌, Contains, IsSome, IsSomeAnd, slice_get}
use Rattle.std.proofs.lemmas.List.{length-set}
use Rattle.std.proofs.lemmas.List.Elements.{All-push, Contains-append_left, Contains-push}
use Rattle.std.proofs.lemmas.List.Quantifiers.{all_pairs_push}
use Rattle.tv_field.specs.Entry.{Entry}
use Rattle.tv_schema.specs.Schema.{field_named}
use Rattle.tv_schema.proofs.Names.{field_named-named}
use Rattle.tv_doc.specs.NotedFields.{AreNoted}
use Rattle.tv_doc.specs.StrictJson.{NameFieldsOnce}

-- ---- a key is the name of its field

one_name : (o : Option Entry) (a b : List ℕ) → IsSomeAnd o (λ entry. entry.name ≡ a) → IsSomeAnd o (λ entry. entry.name ≡ b) → a ≡ b
one_name None a b h k = absurd h
one_name (Some entry) a b h k = sym h ∙ k

one_key : (schema : List Entry) (field : ℕ) (a b : List ℕ) → field_named schema a ≡ Some field → field_named schema b ≡ Some field → a ≡ b
one_key schema field a b h k = one_name (slice_get schema field) a b (field_named-named schema a field h) (field_named-named schema b field k)

one_field : (schema : List Entry) (a b : List ℕ) (m n : ℕ) → a ≡ b → field_named schema a ≡ Some m → field_named schema b ≡ Some n → m ≡ n
one_field schema a b m n same h k = let both : Some m ≡ Some n = sym h ∙ ap (field_named schema) same ∙ k in cc

-- ---- marks

marked : (noted : List Bool) (i : ℕ) → slice_get noted i ≡ Some false → slice_get (set noted i true) i ≡ Some true
marked [] i e = absurd (cc)
marked (b ∷ bs) zero e = refl
marked (b ∷ bs) (suc i) e = marked bs i e

still_marked : (noted : List Bool) (i k : ℕ) → slice_get noted k ≡ Some true → slice_get (set noted i true) k ≡ Some true
still_marked [] i k e = e
still_marked (b ∷ bs) zero zero e = refl
still_marked (b ∷ bs) zero (suc k) e = e
still_marked (b ∷ bs) (suc i) zero e = e
still_marked (b ∷ bs) (suc i) (suc k) e = still_marked bs i k e

marked_by : (noted : List Bool) (i k : ℕ) → slice_get (set noted i true) k ≡ Some true → (i ≡ k) ⊎ (slice_get noted k ≡ Some true)
marked_by [] i k e = inr e
marked_by (b ∷ bs) zero zero e = inl refl
marked_by (b ∷ bs) zero (suc k) e = inr e
marked_by (b ∷ bs) (suc i) zero e = inr e
marked_by (b ∷ bs) (suc i) (suc k) e = ⊎_elim (λ same. inl (ap suc same)) (λ before. inr before) (marked_by bs i k e)

-- ---- the keys so far

pub no_keys : (schema : List Entry) → NameFieldsOnce schema []
no_keys schema = record { named = λ k d lt. absurd (omega arith); once = λ i j d lt within. absurd (omega arith) }

module _ (schema : List Entry) (keys : List (List ℕ)) (key : List ℕ) (field : ℕ) (old new : List Bool) where
  only_case : AreNoted schema keys old → field_named schema key ≡ Some field → (at : ℕ) → (field ≡ at) ⊎ (slice_get old at ≡ Some true)
      → (one : List ℕ) × Contains (keys ++ key ∷ []) one × (field_named schema one ≡ Some at)
  only_case noted names at h =
      ⊎_elim
      (λ same. (key, Contains-push keys key, names ∙ ap Some same))
      (λ before. let one = noted.only at before in (one.0, Contains-append_left keys (key ∷ []) one.0 one.1, one.2))
      h

  pub more_noted : AreNoted schema keys old → field_named schema key ≡ Some field → slice_get old field ≡ Some false → new ≡ set old field true → AreNoted schema (keys ++ key ∷ []) new
  more_noted noted names fresh is = record {
    each =
        All-push (λ k. (at : ℕ) × (field_named schema k ≡ Some at) × (slice_get new at ≡ Some true)) keys key
        (λ k d lt. let h = noted.each k d lt in (h.0, h.1, ap (λ bs. slice_get bs h.0) is ∙ still_marked old field h.0 h.2))
        (field, names, ap (λ bs. slice_get bs field) is ∙ marked old field fresh);
    only = λ at e. only_case noted names at (marked_by old field at (sym (ap (λ bs. slice_get bs at) is) ∙ e));
    as_many = ap (λ bs. length bs) is ∙ length-set old field true ∙ noted.as_many;
  }

  pub more_once : AreNoted schema keys old → NameFieldsOnce schema keys → field_named schema key ≡ Some field → slice_get old field ≡ Some false → NameFieldsOnce schema (keys ++ key ∷ [])
  more_once noted fine names fresh = record {
    named = All-push (λ k. IsSome (field_named schema k)) keys key fine.named (subst IsSome (sym names) refl);
    once = all_pairs_push (λ one later. one ≢ later) keys key fine.once (λ k d lt same.
        let h = noted.each k d lt in
        let at : h.0 ≡ field = one_field schema (get_or keys k d) key h.0 field same h.1 names in
        let both : Some true ≡ Some false = sym h.2 ∙ ap (slice_get old) at ∙ fresh in
        absurd (cc));
  }

  pub is_repeated : AreNoted schema keys old → field_named schema key ≡ Some field → slice_get old field ≡ Some true → Contains keys key
  is_repeated noted names before =
      let one = noted.only field before in
      subst (Contains keys) (one_key schema field one.0 key one.2 names) one.1
