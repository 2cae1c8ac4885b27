use Rattle.tla_report.proofs.report.put_site.Goals as goal

pub returns-in-None-Some : goal.returns-in-None-Some
returns-in-None-Some g c = rw (c.in-None-Some.is-0, c.in-None-Some.is-1, ← c.name.ensures) c.put_pieces.ensures
