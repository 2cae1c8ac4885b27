-- The models of modules with a specification, by computation.
use Rattle.std.proofs.Common.{refl, arith, inr, [], ◌∷◌}
use Rattle.std.specs.Prelude.{codes}
use Rattle.tla_tree.specs.declared.tree.Bullet.TheVariants as bullet
use Rattle.tla_tree.specs.Tree.{Junction, more, none}
use Rattle.tla_tree.specs.Units.{Operator}
use Rattle.tla_scopes.specs.Meanings.{standard}
use Rattle.tla_defs.specs.Global.{meant}
use Rattle.tla_defs.specs.NamedRows.{name_at}
use Rattle.tla_defs.specs.Rows.{place, word, x_at, now_at, init_before, frame, counter_tree}
use Rattle.tla_defs.specs.SpecificationRows.{Specified, SpecifiedInParts, SpecifiedByNames, safe_tree, box_tree, whole_tree, below_tree, named_tree}
use Rattle.tla_defs.proofs.Worked.{within, well_named}

pub specified : Specified
specified =
    well_named _ _ _ refl refl refl (λ known valued named. record {
      known = known;
      given = refl;
      valued = valued;
      named = named;
      straight = tt;
      scope = meant (frame 0 (counter_tree 3) (Operator (word 6 1 (codes "Spec")) safe_tree ∷ [])) [] standard;
      is_scope = refl;
      initial = name_at 6 9 (codes "Init");
      action = name_at 6 20 (codes "Next");
      behaviour = inr (record {
        name = word 1 15 (codes "Spec");
        one_specification = refl;
        no_init = refl;
        no_next = refl;
        form = record {
          body = safe_tree;
          is_body = refl;
          subscript = x_at 6 26;
          one_step = refl;
          covered = record { names = now_at 6 26; expanded = refl; all = refl };
          is_initial = refl;
        };
      });
      variables = refl;
      assumptions = tt;
      init = record { before = init_before 0; meaning = refl; primed = refl; limits = within _ 3 2 refl refl (omega arith) (omega arith) };
      next = record { meaning = refl; limits = within _ 7 4 refl refl (omega arith) (omega arith) };
      invariants = tt;
      constraints = tt;
      check_deadlock = refl;
    })

pub specified_in_parts : SpecifiedInParts
specified_in_parts =
    well_named _ _ _ refl refl refl (λ known valued named. record {
      known = known;
      given = refl;
      valued = valued;
      named = named;
      straight = tt;
      scope = meant (frame 0 (counter_tree 3) (Operator (word 6 1 (codes "Safe")) safe_tree ∷ Operator (word 7 1 (codes "Spec")) whole_tree ∷ [])) [] standard;
      is_scope = refl;
      initial = Junction (place 6 9) bullet.And (more (name_at 6 9 (codes "Init")) (more below_tree none));
      action = name_at 6 20 (codes "Next");
      behaviour = inr (record {
        name = word 1 15 (codes "Spec");
        one_specification = refl;
        no_init = refl;
        no_next = refl;
        form = record {
          body = whole_tree;
          is_body = refl;
          subscript = x_at 6 26;
          one_step = refl;
          covered = record { names = now_at 6 26; expanded = refl; all = refl };
          is_initial = refl;
        };
      });
      variables = refl;
      assumptions = tt;
      init = record { before = _; meaning = refl; primed = refl; limits = within _ 7 3 refl refl (omega arith) (omega arith) };
      next = record { meaning = refl; limits = within _ 7 4 refl refl (omega arith) (omega arith) };
      invariants = tt;
      constraints = tt;
      check_deadlock = refl;
    })

pub specified_by_names : SpecifiedByNames
specified_by_names =
    well_named _ _ _ refl refl refl (λ known valued named. record {
      known = known;
      given = refl;
      valued = valued;
      named = named;
      straight = tt;
      scope = meant (frame 0 (counter_tree 3) (Operator (word 6 1 (codes "Box")) box_tree ∷ Operator (word 7 1 (codes "Spec")) named_tree ∷ [])) [] standard;
      is_scope = refl;
      initial = name_at 7 9 (codes "Init");
      action = name_at 6 11 (codes "Next");
      behaviour = inr (record {
        name = word 1 15 (codes "Spec");
        one_specification = refl;
        no_init = refl;
        no_next = refl;
        form = record {
          body = named_tree;
          is_body = refl;
          subscript = x_at 6 17;
          one_step = refl;
          covered = record { names = now_at 6 17; expanded = refl; all = refl };
          is_initial = refl;
        };
      });
      variables = refl;
      assumptions = tt;
      init = record { before = init_before 0; meaning = refl; primed = refl; limits = within _ 3 2 refl refl (omega arith) (omega arith) };
      next = record { meaning = refl; limits = within _ 7 4 refl refl (omega arith) (omega arith) };
      invariants = tt;
      constraints = tt;
      check_deadlock = refl;
    })
