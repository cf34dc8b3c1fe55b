-- What is buffered, and passed over where it lies.
use Rattle.std.proofs.Common.{◌≡◌, ℕ, ◌+◌, ◌≤◌, true, List, [], ◌++◌, length, take, Ok, sym, ◌∙◌, ap, arith, take_at}
use Rattle.std.proofs.lemmas.List.{take-append-le}
use Rattle.tv_base.specs.Lend.{Passes}
use Rattle.tv_base.specs.Sink.{IsPrefix}
use Rattle.tv_base.specs.Source.{Failures}
use Rattle.tv_base.specs.declared.cause.Cause.TheVariants.{UnexpectedEnd}
use Rattle.tv_format.specs.InputError.{corrupted}
use Rattle.tv_reader.specs.Error.{store_stop}
use Rattle.tv_reader.specs.Finds.{FindsIf, Nothing}
use Rattle.tv_reader.specs.declared.error.DeserializeError.{DeserializeError}
use Rattle.tv_reader.proofs.Finding.{finds_nothing}

-- the bytes that were lent, as many as were passed
prefix_lent : (old new lent : List ℕ) (n : ℕ) → IsPrefix lent old → n ≤ length lent → (p : (prefix : List ℕ) × (old ≡ prefix ++ new) × (length prefix ≡ n)) → take n lent ≡ p.0
prefix_lent old new lent n lend within p = sym (take-append-le n lent lend.0 within) ∙ ap (take n) (sym lend.1 ∙ p.1) ∙ take_at p.0 new n p.2

module _ {S X : Type 0} {May : DeserializeError → ℕ → Type 0} {is_known : S → Type 0} {left : S → List ℕ} {failures : S → Failures} (Encodes : List ℕ → X → Type 0) (x : X) where
  pub passed_over : {os ns : S} {i k : ℕ} (lent : List ℕ) (n : ℕ) → (is_known os → IsPrefix lent (left os)) → n ≤ length lent → ((a : List ℕ) → take n lent ≡ a → length a ≡ n → Encodes a x) → (is_known os → Passes (left os) (left ns) n true) → (is_known os → is_known ns) → failures ns ≡ failures os → k ≡ i + n
      → FindsIf May is_known left failures os i ns k (Ok x) Encodes Nothing
  passed_over {os = os} {ns = ns} lent n lend within is pass told same counted = record {
    found = λ t. let p = pass t in record { prefix = p.0; joined = p.1; encoded = is p.0 (prefix_lent (left os) (left ns) lent n (lend t) within p) p.2 };
    taken = λ t. let p = pass t in record { prefix = p.0; joined = p.1; counted = omega (arith, counted, p.2) };
    stays_known = told;
    counts = same;
    count_grows = omega (arith, counted);
    may_stop = tt;
  }

  -- they weren't, and nothing was
  pub not_passed : {os ns : S} {i : ℕ} → Encodes [] x → (is_known os → left ns ≡ left os) → (is_known os → is_known ns) → failures ns ≡ failures os → FindsIf May is_known left failures os i ns i (Ok x) Encodes Nothing
  not_passed {i = i} is pass told same = record {
    found = λ t. record { prefix = []; joined = sym (pass t); encoded = is };
    taken = λ t. record { prefix = []; joined = sym (pass t); counted = omega arith };
    stays_known = told;
    counts = same;
    count_grows = omega arith;
    may_stop = tt;
  }

  -- there was none to pass
  pub none_buffered : {p : S} {i : ℕ} → Encodes [] x → FindsIf May is_known left failures p i p i (Ok x) Encodes Nothing
  none_buffered {p = p} {i = i} is = finds_nothing store_stop (corrupted UnexpectedEnd) is_known left failures p i x Encodes Nothing is
