use Rattle.tla_report.proofs.report.put_part.Goals as goal

pub returns-in-Initial : goal.returns-in-Initial
returns-in-Initial g c = rw c.in-Initial.is c.put_line-in-Initial.ensures
