-- What a call tells that passes a refusal on with `?`: the refusal as it is, or the one that is made from what another call found.
-- Assumes nothing.
use mathlib.Core.Path.{◌≡◌, ap, ◌∙◌}
use Rattle.std.proofs.Common.{IsErrAnd}
use Rattle.std.proofs.lemmas.Result.{err_from_is_err_and}
use Rattle.std.specs.declared.result.Result.{Result}
use Rattle.words.specs.Told.{Told}
use Rattle.words.specs.Meaning.{refusal_of, answer_told}
use Rattle.words.specs.declared.Refusal.{Refusal}

pub passed-as : {A B : Type 0} (f : A → B) (r : Result A Refusal) (t : Told B) → IsErrAnd r (λ e. refusal_of e ≡ t) → answer_told f r ≡ t
passed-as f r t h = let p = err_from_is_err_and r h in ap (answer_told f) p.1 ∙ p.2

pub passed-on : {A B : Type 0} (f : A → B) (r : Result A Refusal) (g : Refusal) → IsErrAnd r (λ e. e ≡ g) → answer_told f r ≡ refusal_of g
passed-on f r g h = let p = err_from_is_err_and r h in ap (answer_told f) p.1 ∙ ap refusal_of p.2
