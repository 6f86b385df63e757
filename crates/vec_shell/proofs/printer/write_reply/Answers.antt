use Rattle.vec_shell.proofs.printer.write_reply.Goals as goal

pub returns : goal.returns
returns g c = c.end.ensures _ _ _ (c.print_reply.ensures.adds _ _ _ (c.begin.ensures _ _))
