-- Entries whose keys rise are the members of their object, one after the other.
use Rattle.std.proofs.Common.{◌≡◌, ℕ, List, [], ◌∷◌, String, Global, string_bytes, string_cmp, Ordering, Less, Equal, Greater, refl, sym, ap, subst, ◌∙◌}
use Rattle.std.proofs.lemmas.Cmp.{nat_list_cmp_total}
use Rattle.std.specs.BTreeMap.{insert_entry}
use Rattle.std.specs.Ordering.{match_ordering, ordering_reverse, nat_cmp}
use Rattle.std.specs.Cmp.Lexicographic.{slice_cmp}
use Rattle.serde_json.specs.Data as json
use Rattle.serde_json.specs.Data.{Data, Members, no_members, member, put}
use Rattle.tv_format.specs.Tree.{Tree, object, Entries, no_entries, entry, entries}
use Rattle.tv_value.specs.JsonOf.{json_of, entries_json}
use Rattle.tv_json.specs.Rising.{Below, RiseFrom, KeysRise, entries_of, listed_json, pair_entries}

-- ---- members after others

abbrev joined : Members → Members → Members
joined no_members ns = ns
joined (member k d ms) ns = member k d (joined ms ns)

joined-none : (ms : Members) → joined ms no_members ≡ ms
joined-none no_members = refl
joined-none (member k d ms) = ap (member k d) (joined-none ms)

joined-more : (ms : Members) (k : List ℕ) (d : Data) (ns : Members) → joined (joined ms (member k d no_members)) ns ≡ joined ms (member k d ns)
joined-more no_members k d ns = refl
joined-more (member l e ms) k d ns = ap (member l e) (joined-more ms k d ns)

abbrev AllBelow : List ℕ → Members → Type 0
AllBelow k no_members = Unit {0}
AllBelow k (member l e ms) = Below l k × AllBelow k ms

all_below_more : (k l : List ℕ) (d : Data) (ms : Members) → Below k l → AllBelow k ms → AllBelow l (joined ms (member k d no_members))
all_below_more k l d no_members b a = (b, tt)
all_below_more k l d (member m e ms) b a = (nat_list_cmp_total.trans m k l a.0 b, all_below_more k l d ms b a.1)

put_last : (k : List ℕ) (d : Data) (ms : Members) → AllBelow k ms → put k d ms ≡ joined ms (member k d no_members)
put_last k d no_members a = refl
put_last k d (member l e ms) a =
    let above : slice_cmp nat_cmp k l ≡ Greater = nat_list_cmp_total.antisymm k l ∙ ap ordering_reverse a.0 in
    rw above (ap (member l e) (put_last k d ms a.1))

-- ---- entries

abbrev Above : Members → Entries → Type 0
Above found no_entries = Unit {0}
Above found (entry k t es) = AllBelow k found

above_more : (found : Members) (k : List ℕ) (d : Data) (es : Entries) → AllBelow k found → RiseFrom k es → Above (joined found (member k d no_members)) es
above_more found k d no_entries a r = tt
above_more found k d (entry l t es) a r = all_below_more k l d found r.0 a

rest_rises : (k : List ℕ) (es : Entries) → RiseFrom k es → KeysRise es
rest_rises k no_entries r = tt
rest_rises k (entry l t es) r = r.1

in_order_behind : (found : Members) (es : List (List ℕ × Tree)) → Above found (entries es) → KeysRise (entries es) → entries_json (entries es) found ≡ joined found (listed_json es)
in_order_behind found [] a r = sym (joined-none found)
in_order_behind found (e ∷ es) a r =
    let d = json_of e.1 in
    ap (entries_json (entries es)) (put_last e.0 d found a) ∙ in_order_behind (joined found (member e.0 d no_members)) es (above_more found e.0 d (entries es) a r) (rest_rises e.0 (entries es) r)
    ∙ joined-more found e.0 d (listed_json es)

above_nothing : (es : Entries) → Above no_members es
above_nothing no_entries = tt
above_nothing (entry k t es) = tt

-- the entries of an object that rise are its members, one after the other
pub object_in_order : (t : Tree) (es : List (List ℕ × Tree)) → object (entries es) ≡ t → KeysRise (entries_of t) → json.object (listed_json es) ≡ json_of t
object_in_order t es whole r = ap json.object (sym (in_order_behind no_members es (above_nothing (entries es)) (subst KeysRise (ap entries_of (sym whole)) r))) ∙ ap json_of whole

-- ---- pairs that are put into a map

pairs-match_ordering : {N : Type 0} (tree : N → Tree) (o : Ordering) (a b c : List (String Global × N))
    → listed_json (pair_entries tree (match_ordering o a b c)) ≡ match_ordering o (listed_json (pair_entries tree a)) (listed_json (pair_entries tree b)) (listed_json (pair_entries tree c))
pairs-match_ordering tree Less a b c = refl
pairs-match_ordering tree Equal a b c = refl
pairs-match_ordering tree Greater a b c = refl

pub pairs-insert_entry : {N : Type 0} (tree : N → Tree) (ps : List (String Global × N)) (k : String Global) (v : N)
    → listed_json (pair_entries tree (insert_entry string_cmp ps k v)) ≡ put (string_bytes k) (json_of (tree v)) (listed_json (pair_entries tree ps))
pairs-insert_entry tree [] k v = refl
pairs-insert_entry tree (p ∷ ps) k v = pairs-match_ordering tree (string_cmp k p.0) _ _ _ ∙ rw (pairs-insert_entry tree ps k v)
