-- The members of an object that is read, a key at a time.
use Rattle.std.proofs.Common.{◌≡◌, ◌≢◌, ℕ, zero, suc, ◌-◌, List, [], ◌∷◌, ◌++◌, length, Option, Some, None, option_map, option_and_then, Result, Ok, Err, refl, sym, ap, ◌∙◌, subst, arith, append_assoc, append-nil}
use Rattle.std.specs.Prelude.{MatchResult}
use Rattle.tv_doc.specs.StrictJson.{keys_of}
use Rattle.json.specs.Token.{Token}
use Rattle.json.specs.Lex.{tokens}
use Rattle.json.specs.Json as written
use Rattle.json.specs.Json.{Json, Parse, parse_map, read_key, members_step, members, value, skip_value, if_last}
use Rattle.serde_json.specs.Data as json
use Rattle.serde_json.specs.Read.{of_json, max_depth, read}

same_parts : {A : Type 0} (a b : A) (s r : List Token) → ◌≡◌ {A = Option (A × List Token)} (Some (a, s)) (Some (b, r)) → (a ≡ b) × (s ≡ r)
same_parts {A} a b s r e =
    let both : ◌≡◌ {A = A × List Token} (a, s) (b, r) = cc in
    (ap (λ p. p.0) both, ap (λ p. p.1) both)

-- ---- an object is written as one

no_number : (ms : json.Members) (o : Option json.Num) → option_map json.number o ≡ Some (json.object ms) → ⊥
no_number ms None e = absurd (cc)
no_number ms (Some n) e = absurd (cc)

no_array : (ms : json.Members) (o : Option json.Items) → option_map json.array o ≡ Some (json.object ms) → ⊥
no_array ms None e = absurd (cc)
no_array ms (Some n) e = absurd (cc)

whole_object : (ms : json.Members) (j : Json) → of_json j ≡ Some (json.object ms) → (found : written.Members) × (j ≡ written.object found)
whole_object ms written.null e = absurd (cc)
whole_object ms (written.boolean b) e = absurd (cc)
whole_object ms (written.number s) e = absurd (no_number ms _ e)
whole_object ms (written.string s) e = absurd (cc)
whole_object ms (written.array js) e = absurd (no_array ms _ e)
whole_object ms (written.object found) e = (found, refl)

object_alone : (ms : json.Members) (o : Option (Json × List Token)) → option_and_then of_json (option_and_then (λ p. if_last p.0 p.1) o) ≡ Some (json.object ms)
    → (found : written.Members) × (o ≡ Some (written.object found, []))
object_alone ms None e = absurd (cc)
object_alone ms (Some (j, t ∷ ts)) e = absurd (cc)
object_alone ms (Some (j, [])) e = let h = whole_object ms j e in (h.0, ap (λ k. Some (k, [])) h.1)

pub object_written : (text : List ℕ) (ms : json.Members) → read text ≡ Some (json.object ms) → (found : written.Members) × (value max_depth (tokens text) ≡ Some (written.object found, []))
object_written text ms e = object_alone ms (value max_depth (tokens text)) e

-- ---- its members are read after the first token

mapped_object : (found : written.Members) (r : List Token) (o : Option (written.Members × List Token)) → parse_map written.object o ≡ Some (written.object found, r) → o ≡ Some (found, r)
mapped_object found r None e = absurd (cc)
mapped_object found r (Some (ms, s)) e =
    let same = same_parts (written.object ms) (written.object found) s r e in
    let members : ms ≡ found = cc in
    rw (members, same.1) refl

mapped_array : (found : written.Members) (r : List Token) (o : Option (written.Items × List Token)) → parse_map written.array o ≡ Some (written.object found, r) → ⊥
mapped_array found r None e = absurd (cc)
mapped_array found r (Some (ms, s)) e =
    let same = (same_parts (written.array ms) (written.object found) s r e).0 in
    absurd (cc)

pub behind_first : (d : ℕ) (t : Token) (ts r : List Token) (found : written.Members) → value (suc d) (t ∷ ts) ≡ Some (written.object found, r) → members (value d) (length ts) ts ≡ Some (found, r)
unfolding value
behind_first d Token.begin_object ts r found e = mapped_object found r _ e
behind_first d Token.end_object ts r found e = absurd (cc)
behind_first d Token.begin_array ts r found e = absurd (mapped_array found r _ e)
behind_first d Token.end_array ts r found e = absurd (cc)
behind_first d (Token.key s) ts r found e = absurd (cc)
behind_first d (Token.string s) ts r found e = let same = (same_parts (written.string s) (written.object found) ts r e).0 in absurd (cc)
behind_first d (Token.number s) ts r found e = let same = (same_parts (written.number s) (written.object found) ts r e).0 in absurd (cc)
behind_first d (Token.boolean b) ts r found e = let same = (same_parts (written.boolean b) (written.object found) ts r e).0 in absurd (cc)
behind_first d Token.null ts r found e = let same = (same_parts written.null (written.object found) ts r e).0 in absurd (cc)
behind_first d Token.bad ts r found e = absurd (cc)

-- ---- a turn of its members, and their end

-- the member whose value stands here, and those after it
pub record Member (p : Parse Json) (n : ℕ) (key : List ℕ) (here r : List Token) (found : written.Members) : Type 0 where
  pub json : Json
  pub others : written.Members
  pub left : List Token
  pub passed : p here ≡ Some (json, left)
  pub is : found ≡ written.member key json others
  pub more : members p (n - 1) left ≡ Some (others, r)

module _ (p : Parse Json) (key : List ℕ) (r : List Token) (found : written.Members) where
  others_case : (n : ℕ) (here left : List Token) (j : Json) → p here ≡ Some (j, left) → (o : Option (written.Members × List Token)) → members p n left ≡ o → parse_map (written.member key j) o ≡ Some (found, r)
      → Member p (suc n) key here r found
  others_case n here left j passed None is e = absurd (cc)
  others_case n here left j passed (Some (others, s)) is e =
      let less : n ≡ suc n - 1 = omega arith in
      let same = same_parts (written.member key j others) found s r e in
      record {
        json = j;
        others = others;
        left = left;
        passed = passed;
        is = sym same.0;
        more = subst (λ k. members p k left ≡ Some (others, r)) less (is ∙ ap (λ x. Some (others, x)) same.1);
      }

  value_case : (n : ℕ) (here : List Token) (o : Option (Json × List Token)) → p here ≡ o → option_and_then (λ q. parse_map (written.member key q.0) (members p n q.1)) o ≡ Some (found, r)
      → Member p (suc n) key here r found
  value_case n here None is e = absurd (cc)
  value_case n here (Some (j, left)) is e = others_case n here left j is (members p n left) refl e

  pub member_behind : (n : ℕ) (ts here : List Token) → read_key ts ≡ Some (Some key, here) → members p n ts ≡ Some (found, r) → Member p n key here r found
  unfolding members
  member_behind zero ts here named e = absurd (cc)
  member_behind (suc n) ts here named e =
      value_case n here (p here) refl (ap (option_and_then (λ q. members_step p (members p n) q.0 q.1)) (sym named) ∙ e)

end_case : (p : Parse Json) (n : ℕ) (r : List Token) (found : written.Members) (o : Option (Option (List ℕ) × List Token)) → ((key : List ℕ) (s : List Token) → o ≢ Some (Some key, s))
    → option_and_then (λ q. members_step p (members p n) q.0 q.1) o ≡ Some (found, r) → found ≡ written.no_members
end_case p n r found None never e = absurd (cc)
end_case p n r found (Some (None, s)) never e = sym (same_parts written.no_members found s r e).0
end_case p n r found (Some (Some key, s)) never e = absurd (never key s refl)

pub none_behind : (p : Parse Json) (n : ℕ) (ts r : List Token) (found : written.Members) → ((key : List ℕ) (s : List Token) → read_key ts ≢ Some (Some key, s)) → members p n ts ≡ Some (found, r)
    → found ≡ written.no_members
unfolding members
none_behind p zero ts r found never e = absurd (cc)
none_behind p (suc n) ts r found never e = end_case p n r found (read_key ts) never e

-- ---- the keys so far

-- These keys were read, and after them come the members that are left.
pub record KeysSoFar (depth : ℕ) (first now : List Token) (before : List (List ℕ)) : Type 0 where
  pub turns : ℕ
  pub rest : (found : written.Members) (r : List Token) → members (value depth) (length first) first ≡ Some (found, r)
      → (others : written.Members) × (members (value depth) turns now ≡ Some (others, r)) × (keys_of found ≡ before ++ keys_of others)

pub none_so_far : (depth : ℕ) (first : List Token) → KeysSoFar depth first first []
none_so_far depth first = record { turns = length first; rest = λ found r e. (found, e, refl) }

-- the value is passed
passed_value : {X E : Type 0} (depth : ℕ) (here left next : List Token) (j : Json) (passed : Result X E) → value depth here ≡ Some (j, left)
    → MatchResult passed (λ _. skip_value depth here ≡ Some next) (λ _. skip_value depth here ≡ None) → left ≡ next
passed_value depth here left next j (Ok x) is h = let both : Some left ≡ Some next = sym (ap (option_map (λ p. p.1)) is) ∙ h in cc
passed_value depth here left next j (Err e) is h = let never : Some left ≡ None = sym (ap (option_map (λ p. p.1)) is) ∙ h in absurd (cc)

module _ (depth : ℕ) (first now here : List Token) (before : List (List ℕ)) (key : List ℕ) where
  pub key_stands : KeysSoFar depth first now before → read_key now ≡ Some (Some key, here) → (found : written.Members) (r : List Token) → members (value depth) (length first) first ≡ Some (found, r)
      → (behind : List (List ℕ)) × (keys_of found ≡ before ++ key ∷ behind)
  key_stands so_far named found r e =
      let h = so_far.rest found r e in
      let m = member_behind (value depth) key r h.0 so_far.turns now here named h.1 in
      (keys_of m.others, h.2 ∙ ap (λ ms. before ++ keys_of ms) m.is)

  pub one_more : {X E : Type 0} (next : List Token) (passed : Result X E) → KeysSoFar depth first now before → read_key now ≡ Some (Some key, here)
      → MatchResult passed (λ _. skip_value depth here ≡ Some next) (λ _. skip_value depth here ≡ None) → KeysSoFar depth first next (before ++ key ∷ [])
  one_more next passed so_far named skipped = record {
    turns = so_far.turns - 1;
    rest = λ found r e.
        let h = so_far.rest found r e in
        let m = member_behind (value depth) key r h.0 so_far.turns now here named h.1 in
        let there = passed_value depth here m.left next m.json passed m.passed skipped in (
          m.others,
          subst (λ ts. members (value depth) (so_far.turns - 1) ts ≡ Some (m.others, r)) there m.more,
          h.2 ∙ ap (λ ms. before ++ keys_of ms) m.is ∙ sym (append_assoc before (key ∷ []) (keys_of m.others)),
        );
  }

pub all_read : (depth : ℕ) (first now : List Token) (before : List (List ℕ)) → KeysSoFar depth first now before → ((key : List ℕ) (s : List Token) → read_key now ≢ Some (Some key, s))
    → (found : written.Members) (r : List Token) → members (value depth) (length first) first ≡ Some (found, r) → keys_of found ≡ before
all_read depth first now before so_far never found r e =
    let h = so_far.rest found r e in
    h.2 ∙ ap (λ ms. before ++ keys_of ms) (none_behind (value depth) so_far.turns now r h.0 never h.1) ∙ append-nil before
