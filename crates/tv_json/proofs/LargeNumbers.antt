-- The first number that is too large.
use Rattle.std.proofs.Common.{◌≡◌, ◌↔◌, IsTrue, ℕ, ◌+◌, ◌-◌, ◌<◌, List, length, take, drop, take_while, Bool, true, false, not, subst, sym, ap, ◌∙◌, below_more, Option, Some, None, option_map, is_some, length-take, refl}
use Rattle.std.proofs.lemmas.List.{take_min, take_rest}
use Rattle.std.specs.List.{prefix_len}
use Rattle.serde_json.specs.Read.{number_of}
use Rattle.tv_json.specs.Faults.{start, Leads}
use Rattle.tv_json.specs.LargeNumber.{is_number_byte, value_comes, IsLargeNumber, IsFirstLargeNumber}
use Rattle.tv_json.specs.declared.json_scan.Scan.{Scan}
use Rattle.tv_json.proofs.Faults.{Leads-same}

pub take-take_while : (p : ℕ → Bool) (xs : List ℕ) → take (length (take_while p xs)) xs ≡ take_while p xs
take-take_while p xs = ap (λ n. take n xs) (length-take (prefix_len p xs) xs) ∙ take_min (prefix_len p xs) xs

-- one of two options is none exactly where the other is
pub none_alike :
    {A B C : Type 0} (f : A → C) (g : B → C) (r : Option A) (n : Option B) (is_none : Bool) → option_map f r ≡ option_map g n →
    is_some r ≡ not is_none → IsTrue is_none ↔ (n ≡ None)
none_alike f g None None true e h = (λ _. refl, λ _. refl)
none_alike f g None None false e h = absurd (cc)
none_alike f g None (Some y) b e h = absurd (cc)
none_alike f g (Some x) None b e h = absurd (cc)
none_alike f g (Some x) (Some y) true e h = absurd (cc)
none_alike f g (Some x) (Some y) false e h = (λ no. cc, λ no. cc)

-- the number that comes at i
abbrev pub number_text : List ℕ → ℕ → List ℕ
number_text text i = take_while is_number_byte (take (length text - i) (drop i text))

number_text-rest : (text : List ℕ) (i : ℕ) → number_text text i ≡ take_while is_number_byte (drop i text)
number_text-rest text i = ap (take_while is_number_byte) (take_rest text i)

pub no_value : (text : List ℕ) (i : ℕ) (at : Scan) → Leads start (take i text) at → false ≡ value_comes at.place → ¬ (IsLargeNumber text i)
no_value text i at passed none h =
    let same : value_comes h.at.place ≡ value_comes at.place = ap (λ s. value_comes s.place) (Leads-same h.passed passed) in cc (same, h.comes, none)

pub not_large : (text : List ℕ) (i : ℕ) → IsTrue false ↔ (number_of (number_text text i) ≡ None) → ¬ (IsLargeNumber text i)
not_large text i small h = let no : false ≡ true = small.1 (ap number_of (number_text-rest text i) ∙ h.large) in cc

pub is_first :
    (text : List ℕ) (i : ℕ) (at : Scan) → Leads start (take i text) at → true ≡ value_comes at.place → IsTrue true ↔ (number_of (number_text text i) ≡ None) →
    ((k : ℕ) → k < i → ¬ (IsLargeNumber text k)) → IsFirstLargeNumber text i
is_first text i at passed comes large first = record {
  is_large = record { at = at; passed = passed; comes = sym comes; large = ap number_of (sym (number_text-rest text i)) ∙ large.0 refl };
  first = first;
}
