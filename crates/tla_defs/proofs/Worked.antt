-- The models of some modules and configurations, by computation.
use Rattle.std.proofs.Common.{◌≡◌, ◌≤◌, ℕ, List, [], ◌∷◌, None, refl, arith, inl}
use Rattle.std.specs.Prelude.{codes}
use Rattle.tla_core.specs.Expr.{Expr}
use Rattle.tla_tree.specs.declared.word.Written.{Written}
use Rattle.tla_tree.specs.Tree.{Name}
use Rattle.tla_tree.specs.Units.{UnitTree, Operator}
use Rattle.tla_config.specs.Statements.{Statement, items_of}
use Rattle.tla_names.specs.WellScopedModule.{IsWellScopedModule}
use Rattle.tla_names.specs.Constants.{unvalued, AreAssigned}
use Rattle.tla_names.specs.Named.{names_misused, AreNamed}
use Rattle.tla_names.specs.Misuses.{misuse}
use Rattle.tla_names.proofs.WellScopedModule.{well_scoped_module, named_statements, assigned_constants}
use Rattle.tla_items.specs.Items.{definitions_of, replaced_names}
use Rattle.tla_model.specs.ModelTree.{ModelTree}
use Rattle.tla_model.specs.Size.{nodes, depth, IsWithinLimits}
use Rattle.tla_scopes.specs.Meanings.{Scope, standard}
use Rattle.tla_defs.specs.Global.{meant}
use Rattle.tla_defs.specs.Model.{IsBehaviour, IsModel, initials_named, nexts_named, specifications_named}
use Rattle.tla_defs.specs.Rows.{word, init_before, frame, counter_tree, bounded_tree, plus_tree, below_three_tree, CounterOfThree, CounterOfFive, BoundedSteps, BoundedStepsMayEnd, CountsWithin, LargestNumber}

pub within : (e : Expr) (n d : ℕ) → nodes e ≡ n → depth e ≡ d → n ≤ 200000 → d ≤ 300 → IsWithinLimits e
within e n d a b p q = record { small = rw a p; shallow = rw b q }

-- INIT and NEXT alone name the behaviour
pub by_names : (us : List UnitTree) (cs : List Statement) (σ : Scope) (w v : Written) → initials_named cs ≡ w ∷ [] → nexts_named cs ≡ v ∷ [] → specifications_named cs ≡ [] → IsBehaviour us cs σ (Name w) (Name v)
by_names us cs σ w v i n s = inl (record { init_name = w; next_name = v; one_init = i; one_next = n; no_specification = s; initial_is = refl; action_is = refl })

-- a model, where the searches for what is wrong with its names find nothing
pub well_named : (us : List UnitTree) (cs : List Statement) (m : ModelTree) → misuse us ≡ None → unvalued (replaced_names (items_of cs)) us ≡ None → names_misused (definitions_of us) cs ≡ None
    → (IsWellScopedModule us → AreAssigned (replaced_names (items_of cs)) us → AreNamed (definitions_of us) cs → IsModel us cs m) → IsModel us cs m
well_named us cs m known valued named model = model ((well_scoped_module us).1 known) ((assigned_constants (replaced_names (items_of cs)) us).1 valued) ((named_statements (definitions_of us) cs).1 named)

pub counter_of_three : CounterOfThree
counter_of_three =
    well_named _ _ _ refl refl refl (λ known valued named. record {
      known = known;
      given = refl;
      valued = valued;
      named = named;
      straight = tt;
      scope = meant (frame 0 (counter_tree 3) (Operator (word 6 1 (codes "Inv")) below_three_tree ∷ [])) [] standard;
      is_scope = refl;
      initial = Name (word 1 6 (codes "Init"));
      action = Name (word 2 6 (codes "Next"));
      behaviour = by_names _ _ _ _ _ refl refl refl;
      variables = refl;
      assumptions = tt;
      init = record {
        before = init_before 0;
        meaning = refl;
        primed = refl;
        limits = within _ 3 2 refl refl (omega arith) (omega arith);
      };
      next = record { meaning = refl; limits = within _ 7 4 refl refl (omega arith) (omega arith) };
      invariants = (refl, record { meaning = refl; level = refl; limits = within _ 3 2 refl refl (omega arith) (omega arith) }, tt);
      constraints = tt;
      check_deadlock = refl;
    })

pub counter_of_five : CounterOfFive
counter_of_five =
    well_named _ _ _ refl refl refl (λ known valued named. record {
      known = known;
      given = refl;
      valued = valued;
      named = named;
      straight = tt;
      scope = meant (frame 0 (counter_tree 5) []) [] standard;
      is_scope = refl;
      initial = Name (word 1 6 (codes "Init"));
      action = Name (word 2 6 (codes "Next"));
      behaviour = by_names _ _ _ _ _ refl refl refl;
      variables = refl;
      assumptions = tt;
      init = record {
        before = init_before 0;
        meaning = refl;
        primed = refl;
        limits = within _ 3 2 refl refl (omega arith) (omega arith);
      };
      next = record { meaning = refl; limits = within _ 7 4 refl refl (omega arith) (omega arith) };
      invariants = tt;
      constraints = tt;
      check_deadlock = refl;
    })

pub bounded_steps : BoundedSteps
bounded_steps =
    well_named _ _ _ refl refl refl (λ known valued named. record {
      known = known;
      given = refl;
      valued = valued;
      named = named;
      straight = tt;
      scope = meant (frame 0 bounded_tree []) [] standard;
      is_scope = refl;
      initial = Name (word 1 6 (codes "Init"));
      action = Name (word 2 6 (codes "Next"));
      behaviour = by_names _ _ _ _ _ refl refl refl;
      variables = refl;
      assumptions = tt;
      init = record {
        before = init_before 0;
        meaning = refl;
        primed = refl;
        limits = within _ 3 2 refl refl (omega arith) (omega arith);
      };
      next = record { meaning = refl; limits = within _ 9 4 refl refl (omega arith) (omega arith) };
      invariants = tt;
      constraints = tt;
      check_deadlock = refl;
    })

pub bounded_steps_may_end : BoundedStepsMayEnd
bounded_steps_may_end =
    well_named _ _ _ refl refl refl (λ known valued named. record {
      known = known;
      given = refl;
      valued = valued;
      named = named;
      straight = tt;
      scope = meant (frame 0 bounded_tree []) [] standard;
      is_scope = refl;
      initial = Name (word 1 6 (codes "Init"));
      action = Name (word 2 6 (codes "Next"));
      behaviour = by_names _ _ _ _ _ refl refl refl;
      variables = refl;
      assumptions = tt;
      init = record {
        before = init_before 0;
        meaning = refl;
        primed = refl;
        limits = within _ 3 2 refl refl (omega arith) (omega arith);
      };
      next = record { meaning = refl; limits = within _ 9 4 refl refl (omega arith) (omega arith) };
      invariants = tt;
      constraints = tt;
      check_deadlock = refl;
    })

pub counts_within : CountsWithin
counts_within =
    well_named _ _ _ refl refl refl (λ known valued named. record {
      known = known;
      given = refl;
      valued = valued;
      named = named;
      straight = tt;
      scope = meant (frame 0 plus_tree (Operator (word 6 1 (codes "Con")) below_three_tree ∷ [])) [] standard;
      is_scope = refl;
      initial = Name (word 1 6 (codes "Init"));
      action = Name (word 2 6 (codes "Next"));
      behaviour = by_names _ _ _ _ _ refl refl refl;
      variables = refl;
      assumptions = tt;
      init = record {
        before = init_before 0;
        meaning = refl;
        primed = refl;
        limits = within _ 3 2 refl refl (omega arith) (omega arith);
      };
      next = record { meaning = refl; limits = within _ 5 3 refl refl (omega arith) (omega arith) };
      invariants = tt;
      constraints = (refl, record { meaning = refl; level = refl; limits = within _ 3 2 refl refl (omega arith) (omega arith) }, tt);
      check_deadlock = refl;
    })

pub largest_number : LargestNumber
largest_number =
    well_named _ _ _ refl refl refl (λ known valued named. record {
      known = known;
      given = refl;
      valued = valued;
      named = named;
      straight = tt;
      scope = meant (frame 9223372036854775807 plus_tree []) [] standard;
      is_scope = refl;
      initial = Name (word 1 6 (codes "Init"));
      action = Name (word 2 6 (codes "Next"));
      behaviour = by_names _ _ _ _ _ refl refl refl;
      variables = refl;
      assumptions = tt;
      init = record {
        before = init_before 9223372036854775807;
        meaning = refl;
        primed = refl;
        limits = within _ 3 2 refl refl (omega arith) (omega arith);
      };
      next = record { meaning = refl; limits = within _ 5 3 refl refl (omega arith) (omega arith) };
      invariants = tt;
      constraints = tt;
      check_deadlock = refl;
    })
