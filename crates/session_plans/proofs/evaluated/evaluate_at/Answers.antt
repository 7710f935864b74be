use Rattle.std.specs.Prelude.{Result, Ok, Err, OnOk}
use Rattle.std.proofs.Common.{◌≡◌, List, Option, length, sym, ap, ◌∙◌, subst}
use Rattle.answers.specs.declared.stop.NoMemory.{NoMemory}
use Rattle.family_items.specs.declared.item.FamilyResult.{FamilyResult}
use Rattle.session_plans.specs.Sessions.{AreOfFamilies, IsEvaluation}
use Rattle.session_plans.proofs.Settled.{kept_at}
use Rattle.session_plans.proofs.Places.{written}
use Rattle.session_plans.proofs.evaluated.evaluate_at.Goals as goal

after : (r : Result Unit NoMemory) (P Q : Type 0) → (P → Q) → OnOk r P → OnOk r Q
after (Ok v) P Q f h = f h
after (Err e) P Q f h = tt

pub renew_all-requires-clause-kept : goal.renew_all-requires-clause-kept
renew_all-requires-clause-kept c =
    let d = c.args.case.now in
    let x = c.args.evaluated.now in
    let new = c.args.stocks.now in
    let was =
    subst (λ (fs : List (Option (FamilyResult 48))). AreOfFamilies (IsEvaluation d x.stocks) d fs) (sym c.deref_mut.ensures.value) c.requires.kept.are_kept in
    let settled = kept_at d c.requires.inputs.valid x.stocks new c.requires.kept.is_for c.requires.inputs.are_stocks.is_for c.deref_mut.result.now c.settle.new.families c.settle.ensures was in
    let count : length c.settle.new.families ≡ x.families.len = settled.count ∙ sym c.requires.kept.are_kept.count ∙ sym x.families.ok.0 in
    subst (λ (fs : List (Option (FamilyResult 48))). AreOfFamilies (IsEvaluation d new) d fs)
    (sym (c.deref_mut-in-Ok.ensures.value ∙ written x.families.len c.settle.new.families x.families.items count (sym x.families.ok.0))) settled

pub returns-in-Ok-clause-all : goal.returns-in-Ok-clause-all
returns-in-Ok-clause-all c =
    let x = c.args.evaluated.now in
    let sized : length x.families.items ≡ x.families.len = sym x.families.ok.0 in
    let count : length c.settle.new.families ≡ x.families.len =
    c.settle.ensures.count ∙ ap (λ (fs : List (Option (FamilyResult 48))). length fs) c.deref_mut.ensures.value ∙ sized in
    let settled = written x.families.len c.settle.new.families x.families.items count sized in
    let long : length c.renew_all.new.families ≡ x.families.len = c.renew_all.ensures.kept.count ∙ sym c.requires.kept.are_kept.count ∙ sized in
    after c.renew_all.result _ _
    (λ all. written x.families.len c.renew_all.new.families _ long (ap (λ (fs : List (Option (FamilyResult 48))). length fs) settled ∙ count) ∙ all)
    c.renew_all.ensures.all

pub settle-requires-clause-old : goal.settle-requires-clause-old
settle-requires-clause-old c = c.requires.kept.is_for

pub settle-requires-clause-new : goal.settle-requires-clause-new
settle-requires-clause-new c = c.requires.inputs.are_stocks.is_for

pub renew_all-requires-clause-inputs : goal.renew_all-requires-clause-inputs
renew_all-requires-clause-inputs c = c.requires.inputs

pub renew_all-requires-clause-rates : goal.renew_all-requires-clause-rates
renew_all-requires-clause-rates c = c.requires.rates
