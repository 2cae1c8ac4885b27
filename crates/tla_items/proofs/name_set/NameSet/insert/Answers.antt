use Rattle.std.proofs.Common.{◌≡◌, ◌∙◌, ap, sym, Bool, true, false, true≢false, not, refl}
use Rattle.tla_config.specs.Names.{is_among}
use Rattle.tla_names.proofs.Keys.{among_keys, not_new}
use Rattle.tla_items.proofs.name_set.NameSet.insert.Goals as goal

pub returns-clause-seen : goal.returns-clause-seen
returns-clause-seen c =
    λ h. ap (λ xs. is_among c.args.name.now xs) (sym c.self.view_is) ∙ sym (among_keys c.args.name.now c.self.inside.words.keys) ∙ not_new _ _ c.in_ok-insert.ensures.added h

is_new : (b c : Bool) → b ≡ not c → b ≡ true → c ≡ false
is_new b true e h = absurd (true≢false (sym h ∙ e))
is_new b false e h = refl

pub returns-clause-fresh : goal.returns-clause-fresh
returns-clause-fresh c =
    λ h. ap (λ xs. is_among c.args.name.now xs) (sym c.self.view_is) ∙ sym (among_keys c.args.name.now c.self.inside.words.keys) ∙ is_new _ _ c.in_ok-insert.ensures.added h
