use Rattle.zq_gateway.proofs.tables.Tables.send_declare.Goals as goal

pub returns-in-DeclareKeyExpr : goal.returns-in-DeclareKeyExpr
returns-in-DeclareKeyExpr c = rw c.in-DeclareKeyExpr.is c.name_key.ensures

pub returns-in-DeclareQueryable : goal.returns-in-DeclareQueryable
returns-in-DeclareQueryable c = rw c.in-DeclareQueryable.is c.register.ensures

pub returns-in-UndeclareQueryable : goal.returns-in-UndeclareQueryable
returns-in-UndeclareQueryable c = rw c.in-UndeclareQueryable.is c.unregister.ensures
