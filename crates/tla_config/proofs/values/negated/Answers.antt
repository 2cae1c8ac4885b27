use Rattle.std.proofs.Common.{◌≡◌, ◌+◌, FitsSigned, true, refl, sym, ap, subst, ◌∙◌}
use Rattle.std.specs.Int.{w64}
use Rattle.std.proofs.Math.Facts.{to_z-of_z}
use Rattle.tla_tree.specs.Words.{word_of}
use Rattle.tla_value.specs.Tree.{int}
use Rattle.tla_value.specs.TreeOf.{tree_of}
use Rattle.tla_config.specs.Literals.{number}
use Rattle.tla_config.proofs.Atoms.{negated_is, negated_none, negated_large, negated_beyond, negated_unwritten, negated_within}
use Rattle.tla_config.proofs.values.negated.Goals as goal

pub returns-in_default-clause-gives : goal.returns-in_default-clause-gives
returns-in_default-clause-gives c = negated_none c.args.text.now c.args.tokens.now c.args.at c.requires (sym c.digits_at.ensures.value ∙ c.in_default.is)

pub returns-in-Some-negative-clause-gives : goal.returns-in-Some-negative-clause-gives
returns-in-Some-negative-clause-gives c =
    let e : tree_of c.int.result ≡ int (number true (word_of c.args.text.now c.in-Some.t)) =
    c.int.ensures.tree ∙ ap (λ z. int z) (to_z-of_z c.in-Some-negative.ensures.fits ∙ c.in-Some-negative.ensures.value ∙ ap (λ w. number true w) c.slice_of.ensures) in
    λ room. negated_is c.args.text.now c.args.tokens.now c.args.at c.in-Some.t (tree_of c.int.result) c.requires (sym c.digits_at.ensures.value ∙ c.in-Some.is) e c.int.ensures.value

pub returns-in-None-clause-gives : goal.returns-in-None-clause-gives
returns-in-None-clause-gives c =
    negated_large c.args.text.now c.args.tokens.now c.args.at c.in-Some.t c.requires (sym c.digits_at.ensures.value ∙ c.in-Some.is)
    (λ f. c.in-None.ensures.none (subst (λ w. FitsSigned w64 (number true w)) (sym c.slice_of.ensures) f))

pub returns-in-None-clause-because : goal.returns-in-None-clause-because
returns-in-None-clause-because c =
    λ room. (
      refl,
      negated_beyond c.args.text.now c.args.tokens.now room c.args.at c.in-Some.t c.requires (sym c.digits_at.ensures.value ∙ c.in-Some.is)
          (λ f. c.in-None.ensures.none (subst (λ w. FitsSigned w64 (number true w)) (sym c.slice_of.ensures) f)),
    )

pub returns-in_default-clause-because : goal.returns-in_default-clause-because
returns-in_default-clause-because c = negated_unwritten c.args.text.now c.args.tokens.now c.args.at c.requires (sym c.digits_at.ensures.value ∙ c.in_default.is)

pub returns-in-Some-negative-clause-limits : goal.returns-in-Some-negative-clause-limits
returns-in-Some-negative-clause-limits c =
    λ room. negated_within c.args.text.now c.args.tokens.now c.args.at (c.args.at + 2) (tree_of c.int.result) c.requires (returns-in-Some-negative-clause-gives c room) room
