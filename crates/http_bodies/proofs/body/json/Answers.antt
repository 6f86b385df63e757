use Rattle.std.proofs.Common.{◌∙◌, sym}
use Rattle.http_bodies.proofs.MemberLaws.{json_read, no_json}
use Rattle.http_bodies.proofs.body.json.Goals as goal

pub returns-in-Ok : goal.returns-in-Ok
returns-in-Ok c = json_read c.args.bytes.now _ c.in-Ok.ensures.ok.0 c.in-Ok.ensures.ok.1

pub returns-else-is_memory : goal.returns-else-is_memory
returns-else-is_memory c =
    no_json c.args.bytes.now (c.in-Err.ensures.err (λ memory. cc (sym c.if-is_memory.false ∙ c.is_memory.ensures.1 memory)))
