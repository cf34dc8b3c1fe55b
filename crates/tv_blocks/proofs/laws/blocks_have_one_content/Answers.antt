use Rattle.tv_blocks.proofs.OneContent.{exported_one, migrated_one, printed_block_one, schema_one, schema_terms_one, terms_one, values_one}
use Rattle.tv_blocks.proofs.laws.blocks_have_one_content.Goals as goal

pub returns-clause-schema : goal.returns-clause-schema
returns-clause-schema c = schema_one

pub returns-clause-printed : goal.returns-clause-printed
returns-clause-printed c = printed_block_one c.blocks_have_one_reading.ensures c.documents_are_listed_in_one_way.ensures.printed

pub returns-clause-exported : goal.returns-clause-exported
returns-clause-exported c = exported_one c.blocks_have_one_reading.ensures c.documents_are_listed_in_one_way.ensures.printed

pub returns-clause-terms : goal.returns-clause-terms
returns-clause-terms c = terms_one c.blocks_have_one_reading.ensures c.documents_are_listed_in_one_way.ensures.printed

pub returns-clause-values : goal.returns-clause-values
returns-clause-values c = values_one c.blocks_have_one_reading.ensures c.documents_are_listed_in_one_way.ensures.printed

pub returns-clause-schema_terms : goal.returns-clause-schema_terms
returns-clause-schema_terms c = schema_terms_one c.blocks_have_one_reading.ensures c.documents_are_listed_in_one_way.ensures.printed

pub returns-clause-migrated : goal.returns-clause-migrated
returns-clause-migrated c = migrated_one c.blocks_have_one_reading.ensures c.documents_are_listed_in_one_way.ensures.printed
