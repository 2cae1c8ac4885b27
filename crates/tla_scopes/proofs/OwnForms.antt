-- An expression without a form of its own means another one, and one with a form means none.
use Rattle.std.proofs.Common.{◌≡◌, true, false, true≢false, refl, sym, ap, ◌∙◌, Vec, Box, Global}
use Rattle.tla_lex.specs.declared.token.Place.{Place}
use Rattle.tla_tree.specs.declared.word.Written.{Written}
use Rattle.tla_tree.specs.declared.tree.Definition.{Definition}
use Rattle.tla_tree.specs.declared.tree.Expr.{Expr, Name, At, Paren', Call', Prime', Let'}
use Rattle.tla_tree.specs.declared.tree.Expr.{roll-Expr, roll-out-Expr}
use Rattle.tla_tree.specs.declared.tree.Expr.TheVariants.{outs-Call', outs-Let', rolls-Call, rolls-Let}
use Rattle.tla_tree.specs.declared.tree.Expr as exprs
use Rattle.tla_tree.specs.View.{view}
use Rattle.tla_tree.specs.Tree.{Tree}
use Rattle.tla_tree.specs.Tree as t
use Rattle.tla_scopes.specs.Forms.{is_plain, is_other, is_made, means_another}

pub without_form : (u : Tree) → is_plain u ≡ false → is_other u ≡ false → is_made u ≡ false → means_another u ≡ true
without_form (t.Number p n) a b c = absurd (true≢false a)
without_form (t.Text p cs) a b c = absurd (true≢false a)
without_form (t.Word p w) a b c = absurd (true≢false a)
without_form (t.Listing p q es) a b c = absurd (true≢false a)
without_form (t.Junction p q es) a b c = absurd (true≢false a)
without_form (t.Field p e w) a b c = absurd (true≢false a)
without_form (t.Binary p op w e f) a b c = absurd (true≢false a)
without_form (t.If p d e f) a b c = absurd (true≢false a)
without_form (t.Unary p op e) a b c = absurd (true≢false b)
without_form (t.Index p f es) a b c = absurd (true≢false b)
without_form (t.Quantified p q bs e) a b c = absurd (true≢false b)
without_form (t.Choose p w s e) a b c = absurd (true≢false b)
without_form (t.Filter p w s e) a b c = absurd (true≢false b)
without_form (t.Image p e bs) a b c = absurd (true≢false b)
without_form (t.Function p bs e) a b c = absurd (true≢false b)
without_form (t.Case p cs o) a b c = absurd (true≢false b)
without_form (t.FunctionSet p s e) a b c = absurd (true≢false c)
without_form (t.Record p fs) a b c = absurd (true≢false c)
without_form (t.RecordSet p fs) a b c = absurd (true≢false c)
without_form (t.Product p e es) a b c = absurd (true≢false c)
without_form (t.Except p e us) a b c = absurd (true≢false c)
without_form (t.Action p q e v) a b c = absurd (true≢false c)
without_form (t.Fair p f v e) a b c = absurd (true≢false c)
without_form _ a b c = refl

-- none of the expressions that mean another one
pub record HasForm (e : Expr) : Type 0 where
  pub no_name : (w : Written) → e ≡ exprs.Name w → ⊥
  pub no_call : (w : Written) (es : Vec Expr Global) → e ≡ exprs.Call w es → ⊥
  pub no_at : (p : Place) → e ≡ exprs.At p → ⊥
  pub no_paren : (p : Place) (a : Box Expr Global) → e ≡ exprs.Paren p a → ⊥
  pub no_prime : (p : Place) (a : Box Expr Global) → e ≡ exprs.Prime p a → ⊥
  pub no_let : (p : Place) (ds : Vec Definition Global) (a : Box Expr Global) → e ≡ exprs.Let p ds a → ⊥

pub means_none : (e : Expr) → HasForm e → means_another (view e) ≡ false
means_none (Name w) k = absurd (k.no_name w refl)
means_none (Call' w shape row) k = absurd (k.no_call w _ (sym (roll-out-Expr (Call' w shape row)) ∙ ap roll-Expr (outs-Call' w shape row) ∙ rolls-Call w _))
means_none (At p) k = absurd (k.no_at p refl)
means_none (Paren' p q a) k = absurd (k.no_paren p (record { ptr = q.ptr; alloc = q.alloc; value = a }) refl)
means_none (Prime' p q a) k = absurd (k.no_prime p (record { ptr = q.ptr; alloc = q.alloc; value = a }) refl)
means_none (Let' p shape row q a) k =
    absurd (k.no_let p _ _ (sym (roll-out-Expr (Let' p shape row q a)) ∙ ap roll-Expr (outs-Let' p shape row q a) ∙ rolls-Let p _ _))
means_none _ k = refl
