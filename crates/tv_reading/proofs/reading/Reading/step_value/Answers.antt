use Rattle.std.proofs.Common.{◌≡◌, ℕ, List, [], ◌∷◌, ◌∙◌, arith, inl, inr, refl, subst, true}
use Rattle.std.proofs.lemmas.Result.{err_from_is_err_and}
use Rattle.tv_builder.specs.Parts.{value}
use Rattle.tv_reader.specs.HeadReading.{head_part}
use Rattle.tv_reader.specs.Heads.{EncodesHead}
use Rattle.tv_reader.specs.Version.{version_of}
use Rattle.tv_reader.specs.declared.value_type.ValueType.TheVariants.{PreTokStr, JSONObject}
use Rattle.tv_reader.specs.EncodedTokens.{tokenized_tree}
use Rattle.tv_value.specs.Owned.{owned_tree}
use Rattle.tv_value.specs.PreTokenized.{tokenized_leaf}
use Rattle.tv_format.specs.Tree.{leaf}
use Rattle.tv_reader.specs.ValueType.{type_prefix}
use Rattle.tv_reading.specs.Prefix.{ValueNext}
use Rattle.tv_reading.specs.Puts.{PutsParts, head_parts}
use Rattle.tv_reading.specs.Steps.{HasFirstByte}
use Rattle.tv_reading.proofs.WithErrors.{value_at_error}
use Rattle.tv_reading.proofs.Stepping.{head_is_part, tokenized_part, legacy_part}
use Rattle.tv_reading.proofs.Wholes.{part_put, part_fails, still_seen, whole_found, whole_fails, whole_first, head_parts_are, lent_is}
use Rattle.tv_reading.proofs.reading.Reading.step_value.Goals as goal

pub returns-in_err-head : goal.returns-in_err-head
returns-in_err-head g c =
    let p = err_from_is_err_and c.from_residual.result c.from_residual.ensures.1 in
    let v = version_of c.args.version in
    let old = c.args.self.now in
    let seen = c.args.legacy_seen.now in
    let h = c.in_err-head.ensures in
    rw (p.1, p.2) (part_fails g.S.ByteSource v seen seen old (λ e n may. may.0) (λ w e f. value_at_error v old w e c.requires f) h.finds (λ known. still_seen old _ seen) (λ known. inl (omega (arith, h.at_most))))

pub returns-in_err-text-in-Tokenized : goal.returns-in_err-text-in-Tokenized
returns-in_err-text-in-Tokenized g c =
    let p = err_from_is_err_and c.from_residual-in_err-text-in-Tokenized.result c.from_residual-in_err-text-in-Tokenized.ensures.1 in
    let v = version_of c.args.version in
    let old = c.args.self.now in
    let seen = c.args.legacy_seen.now in
    let is : (a : List ℕ) → EncodesHead v a (head_part c.in_ok-head.head) → a ≡ type_prefix PreTokStr = λ a h. subst (λ z. EncodesHead v a (head_part z)) c.in-Tokenized.is h in
    let head = c.in_ok-head.ensures.finds in
    rw (p.1, p.2) (part_fails g.S.ByteSource v seen seen old (λ e n may. may) (λ w e f. f) (whole_fails v old PreTokStr c.requires is head c.in_err-text-in-Tokenized.ensures.finds)
    (λ known. still_seen old _ seen) (λ known. inr ((c.requires.field, c.requires.next), inl (whole_first v PreTokStr 7 (0 ∷ []) refl is head known))))

pub returns-in_err-value-in-Legacy : goal.returns-in_err-value-in-Legacy
returns-in_err-value-in-Legacy g c =
    let p = err_from_is_err_and c.from_residual-in_err-value-in-Legacy.result c.from_residual-in_err-value-in-Legacy.ensures.1 in
    let v = version_of c.args.version in
    let old = c.args.self.now in
    let next : ValueNext old = (c.requires.field, c.requires.next) in
    let is : (a : List ℕ) → EncodesHead v a (head_part c.in_ok-head.head) → a ≡ type_prefix JSONObject = λ a h. subst (λ z. EncodesHead v a (head_part z)) c.in-Legacy.is h in
    let head = c.in_ok-head.ensures.finds in
    let first : g.S.ByteSource.is_known c.args.source.now → HasFirstByte 8 (g.S.ByteSource.left c.args.source.now) = λ known. whole_first v JSONObject 8 [] refl is head known in
    rw (p.1, p.2) (part_fails g.S.ByteSource v c.args.legacy_seen.now true old (λ e n may. may) (λ w e f. f) (whole_fails v old JSONObject c.requires is head (c.in_err-value-in-Legacy.ensures.finds v))
    (λ known. record { still = λ e. refl; first = λ e f. (next, first known) }) (λ known. inr (next, inr (first known))))

pub returns-in_ok-text-in-Tokenized : goal.returns-in_ok-text-in-Tokenized
returns-in_ok-text-in-Tokenized g c =
    let v = version_of c.args.version in
    let old = c.args.self.now in
    let new = c.put_leaf.new.self in
    let seen = c.args.legacy_seen.now in
    let next : ValueNext old = (c.requires.field, c.requires.next) in
    let x = c.in_ok-text-in-Tokenized in
    let t = tokenized_tree (x.text, x.tokens) in
    let lent = leaf (tokenized_leaf c.with_text.result) in
    let same : lent ≡ t = lent_is c.with_text.result x.text x.tokens (c.with_text.ensures.text ∙ c.as_str.ensures.value) c.with_text.ensures.tokens in
    let puts = subst (λ z. PutsParts old new (value z ∷ []) c.put_leaf.result) same c.put_leaf.ensures.puts in
    let is : (a : List ℕ) → EncodesHead v a (head_part c.in_ok-head.head) → a ≡ type_prefix PreTokStr = λ a h. subst (λ z. EncodesHead v a (head_part z)) c.in-Tokenized.is h in
    let head = c.in_ok-head.ensures.finds in
    part_put g.S.ByteSource v seen seen old new (value t ∷ []) c.put_leaf.result (λ a h. tokenized_part v seen old t a next h.body h.joined h.encoded) (whole_found tokenized_tree v old PreTokStr c.requires is head x.ensures.finds) puts c.put_leaf.ensures.after_error
    (λ known. still_seen old _ seen) (λ known. inr (next, inl (whole_first v PreTokStr 7 (0 ∷ []) refl is head known)))

pub returns-in_ok-value-in-Legacy : goal.returns-in_ok-value-in-Legacy
returns-in_ok-value-in-Legacy g c =
    let v = version_of c.args.version in
    let old = c.args.self.now in
    let next : ValueNext old = (c.requires.field, c.requires.next) in
    let t = owned_tree c.in_ok-value-in-Legacy.value in
    let put = c.put_tree.ensures in
    let is : (a : List ℕ) → EncodesHead v a (head_part c.in_ok-head.head) → a ≡ type_prefix JSONObject = λ a h. subst (λ z. EncodesHead v a (head_part z)) c.in-Legacy.is h in
    let head = c.in_ok-head.ensures.finds in
    let first : g.S.ByteSource.is_known c.args.source.now → HasFirstByte 8 (g.S.ByteSource.left c.args.source.now) = λ known. whole_first v JSONObject 8 [] refl is head known in
    part_put g.S.ByteSource v c.args.legacy_seen.now true old c.put_tree.new.self (value t ∷ []) c.put_tree.result (λ a h. legacy_part v old t a next h.body h.joined h.encoded) (whole_found owned_tree v old JSONObject c.requires is head (c.in_ok-value-in-Legacy.ensures.finds v)) put.puts put.after_error
    (λ known. record { still = λ e. refl; first = λ e f. (next, first known) }) (λ known. inr (next, inr (first known)))

pub returns-in_default : goal.returns-in_default
returns-in_default g c =
    let v = version_of c.args.version in
    let old = c.args.self.now in
    let head = c.in_ok-head.head in
    let seen = c.args.legacy_seen.now in
    let are = head_parts_are head c.in_default.not-Tokenized c.in_default.not-Legacy in
    let put = c.put_head.ensures in
    part_put g.S.ByteSource v seen seen old c.put_head.new.self (head_parts (head_part head)) c.put_head.result (λ a h. head_is_part v seen old head a are h) c.in_ok-head.ensures.finds put.puts put.after_error
    (λ known. still_seen old _ seen) (λ known. inl (omega (arith, c.in_ok-head.ensures.at_most)))
