use Rattle.std.proofs.Common.{refl}
use Rattle.std.proofs.lemmas.Result.{err_from_is_err_and}
use Rattle.tv_reader.specs.EncodedTokens.{tokenized_tree}
use Rattle.tv_reader.specs.Version.{version_of}
use Rattle.tv_reader.specs.declared.value_type.ValueType.TheVariants.{PreTokStr}
use Rattle.tv_reader.proofs.AgreeLeaves.{tokenized_agrees}
use Rattle.tv_reader.proofs.BehindKinds.{leaf_encoded, leaf_refused}
use Rattle.tv_reader.proofs.Finding.{finds_as, finds_part, finds_part_fails, raised_roomy}
use Rattle.tv_reader.proofs.encoded_tokens.take_gathered.Goals as goal

pub returns-in_err-tokenized : goal.returns-in_err-tokenized
returns-in_err-tokenized g c =
    let p = err_from_is_err_and c.from_residual.result c.from_residual.ensures.1 in
    record { finds = rw (p.1, p.2) (finds_part_fails _ _ raised_roomy g.met.S.ByteSource.are_bytes tokenized_agrees (leaf_refused (version_of c.args.version) PreTokStr refl) c.in_err-tokenized.ensures.takes) }

pub returns : goal.returns
returns g c =
    let x = c.in_ok-tokenized.tokenized in
    record { finds = finds_as x _ _ (λ a p. leaf_encoded (version_of c.args.version) PreTokStr a (tokenized_tree x) (_, p, refl)) (finds_part g.met.S.ByteSource.are_bytes tokenized_agrees c.in_ok-tokenized.ensures.takes) }
