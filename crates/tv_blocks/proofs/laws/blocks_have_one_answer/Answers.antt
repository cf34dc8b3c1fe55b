use Rattle.tv_blocks.proofs.BlockAnswers.{block_answer, export_answer, named_answer}
use Rattle.tv_blocks.proofs.TermAnswers.{terms_answer}
use Rattle.tv_blocks.specs.Blocks.{IsPrintedBlock}
use Rattle.tv_blocks.specs.Terms.{IsTermList}
use Rattle.tv_store.specs.BlockMigration.{IsMigrated}
use Rattle.tv_blocks.proofs.laws.blocks_have_one_answer.Goals as goal

pub returns-clause-printed : goal.returns-clause-printed
returns-clause-printed c = λ schema version block.
    block_answer version block (IsPrintedBlock schema version block) (c.blocks_have_one_content.ensures.printed schema version block) (λ content h. (h.0, h.1))

pub returns-clause-exported : goal.returns-clause-exported
returns-clause-exported c = λ schema version block. export_answer schema version block (c.blocks_have_one_content.ensures.exported schema version block)

pub returns-clause-migrated : goal.returns-clause-migrated
returns-clause-migrated c = λ from to block.
    block_answer from block (IsMigrated from to block) (c.blocks_have_one_content.ensures.migrated from to block) (λ content h. (h.documents, h.encoded))

pub returns-clause-terms : goal.returns-clause-terms
returns-clause-terms c = λ version field block.
    block_answer version block (IsTermList version field block) (c.blocks_have_one_content.ensures.terms version field block) (λ content h. (h.0, h.1))

pub returns-clause-values : goal.returns-clause-values
returns-clause-values c = λ schema name version block. named_answer schema name version block (λ field. c.blocks_have_one_content.ensures.values version field block)

pub returns-clause-schema_terms : goal.returns-clause-schema_terms
returns-clause-schema_terms c = λ with_faults schema version block.
    terms_answer with_faults schema version block (c.blocks_have_one_content.ensures.schema_terms with_faults schema version block)
