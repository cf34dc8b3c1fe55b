use Rattle.std.proofs.Common.{◌∷◌, [], ◌++◌, ap, ◌∙◌}
use Rattle.tv_blocks.proofs.Importing.{imported_all, imported_more, imported_none, is_lenient}
use Rattle.tv_lines.specs.Importing.{left_to}
use Rattle.tv_blocks.proofs.import.import_each.Goals as goal

pub loop-outcome-init : goal.loop-outcome-init
loop-outcome-init c = record {
  rules = c.requires.rules;
  so_far = imported_none c.args.schema.now c.args.lines.now _ c.args.block.now.bytes.items c.args.answers.now.items (ap (left_to c.args.importer.now) c.new-source.ensures ∙ c.requires.unread) c.requires.block c.requires.answers;
}

pub answer_of-answer-requires : goal.answer_of-answer-requires
answer_of-answer-requires c =
    is_lenient _ _ _ _ _ c.in-Ok-Some.outcome (rw (c.in-Ok-Some.field-0-is, c.loop-outcome.invariant.rules) at c.in-Ok-Some.ensures.imports tt tt)

pub loop-outcome-preserved : goal.loop-outcome-preserved
loop-outcome-preserved c =
    let i = c.loop-outcome.invariant in
    record {
      rules = c.in-Ok-Some.ensures.rules ∙ i.rules;
      so_far = imported_more c.in-Ok-Some.outcome i.so_far (rw (c.in-Ok-Some.field-0-is, i.rules) at c.in-Ok-Some.ensures.imports tt tt)
          (c.in_ok-push-in-Ok-Some.ensures.items ∙ ap (λ a. c.loop-outcome.answers.items ++ a ∷ []) c.answer_of-answer.ensures);
    }

pub returns-in-Ok-None : goal.returns-in-Ok-None
returns-in-Ok-None c = imported_all c.loop-outcome.invariant.so_far (rw c.in-Ok-None.field-0-is at c.in-Ok-None.ensures.imports tt tt)
