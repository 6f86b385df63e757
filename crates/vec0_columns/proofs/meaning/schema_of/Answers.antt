use Rattle.vec0_columns.proofs.Narrowing.{answered_rule, answered_schema, valid_schema}
use Rattle.vec0_columns.proofs.meaning.schema_of.Goals as goal

pub returns-in-Some-clause-answer : goal.returns-in-Some-clause-answer
returns-in-Some-clause-answer c = answered_rule c.args.args.now c.in-Ok.columns c.chunk_size.result c.in-Some.rule c.text_fault.result c.in-Ok.ensures c.chunk_size.ensures c.text_fault.ensures c.in-Some.is

pub returns-in-None-clause-answer : goal.returns-in-None-clause-answer
returns-in-None-clause-answer c = answered_schema c.args.args.now c.in-Ok.columns c.chunk_size.result c.text_fault.result c.in-Ok.ensures c.chunk_size.ensures c.text_fault.ensures c.in-None.is

pub returns-in-None-clause-valid : goal.returns-in-None-clause-valid
returns-in-None-clause-valid c = valid_schema c.args.args.now c.in-Ok.columns c.chunk_size.result c.text_fault.result c.in-Ok.ensures c.chunk_size.ensures c.text_fault.ensures c.in-None.is c.requires
