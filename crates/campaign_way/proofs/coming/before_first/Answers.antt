-- `campaign_way::coming::before_first`: a panel that the check accepts is a permutation, from which the carriage comes; no other panel may stand there.
use mathlib.Core.Path.{◌≡◌, refl, sym, ap, ◌∙◌}
use mathlib.Core.Bool.{true, false}
use mathlib.Core.Option.{some}
use lib.ListN.{take}
use borrow.Author.Rules.{rules}
use Rattle.std.specs.Result.{is_err}
use Rattle.std.specs.declared.result.Result.{Result}
use Rattle.std.specs.declared.result.Result.TheVariants.{Ok, Err}
use Rattle.words.specs.declared.Refusal.{Refusal}
use Rattle.words.specs.Told.{accepted}
use Rattle.words.specs.Meaning.{outcome_told, refusal_of}
use Rattle.listing.specs.Pattern.{Permutation}
use Rattle.listing.proofs.Ranks.{at-derangement}
use Rattle.promise.specs.Carriage.{carriage}
use Rattle.plan_rules.specs.Rules.{leg_is}
use Rattle.pattern_course.proofs.Lent.{front-put}
use Rattle.campaign_way.specs.Coming.{next_of}
use Rattle.campaign_way.proofs.Orders.{front-accepted, front-refused, first-astray, first-carried}
use Rattle.campaign_way.proofs.coming.before_first.Goals as goal
use Rattle.campaign_way.proofs.coming.before_first.Goals.{Else-is_err}

-- an answer that is an error tells a refusal, any other none
erred : (r : Result (Unit {0}) Refusal) → is_err r ≡ true → (f : Refusal) × (refusal_of f ≡ outcome_told r)
erred (Ok u) e = cc
erred (Err f) e = (f, refl)

passed : (r : Result (Unit {0}) Refusal) → is_err r ≡ false → accepted tt ≡ outcome_told r
passed (Ok u) e = refl
passed (Err f) e = cc

-- the panel that was found sound is a permutation
sound : (c : Else-is_err) → Permutation c.args.n (take c.args.n c.args.q)
sound c =
    front-accepted c.args.n c.args.q (search rules) (passed c.check_panel.result (sym c.is_err.ensures.value ∙ c.if-is_err.false) ∙ c.check_panel.ensures)

pub carriage_next-requires : goal.carriage_next-requires
carriage_next-requires c =
    let wanted = front-put c.args.n c.args.l.start _ _ (search rules) c.requires.2 c.put_pattern.ensures in
    (c.requires.1, sound (goal.at.carriage_next-requires c).Else-is_err, rw wanted (at-derangement c.args.n c.args.l.start c.requires.2).permutation)

pub returns-then-is_err : goal.returns-then-is_err
returns-then-is_err c =
    let f = erred c.check_panel.result (sym c.is_err.ensures.value ∙ c.if-is_err.true) in
    sym (first-astray c.args.n (leg_is c.args.l) _ (front-refused c.args.n c.args.q _ _ c.requires.0 c.requires.1 (search rules) (f.1 ∙ c.check_panel.ensures)))

pub returns : goal.returns
returns c =
    c.carriage_next.ensures
    ∙ ap (λ t. next_of (some (carriage (take c.args.n c.args.q) t))) (front-put c.args.n c.args.l.start _ _ (search rules) c.requires.2 c.put_pattern.ensures)
    ∙ ap next_of (sym (first-carried c.args.n (leg_is c.args.l) (take c.args.n c.args.q) (sound (goal.at.returns c).Else-is_err)))
