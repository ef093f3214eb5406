-- One request at a place of a buffer: the part from the place on is what is lent, and the answer decides what follows.
-- Assumes nothing.
use mathlib.Core.Path.{◌≡◌, sym, ap, subst, ◌∙◌}
use mathlib.Core.List.{List, [], ◌++◌, append-nil}
use Prim.Native.Nat.{ℕ, ◌+◌, ◌-◌, ◌≤◌}
use native.Mathlib.Omega.{arith}
use lib.ListN.{length, take, drop, take-append-drop}
use lib.Seq.{drop-length}
use borrow.Rule.Slice.PartMut.{mid_of, put_mid, mid_len, Post-is}
use Rattle.promise.specs.Campaign as model
use Rattle.promise.specs.Campaign.{request}
use Rattle.campaign_state.specs.declared.State.{State}
use Rattle.words.specs.Told.{accepted}
use Rattle.campaign.specs.Answers.{RequestIs, answer_told}
use Rattle.campaign.specs.Calls.{answer_of, after, left_of, bytes_of}
use Rattle.campaign.specs.declared.Requested.{Requested}
use Rattle.campaign.proofs.Tells.{told-given}
use Rattle.printing.specs.Printing.{as_run, sequel}
use Rattle.printing.specs.Answers.{sequel_told, GivenIs}
use Rattle.printing.specs.declared.Given.{Given}

module _ (s : State) (b : List ℕ) (at : ℕ) (h : at ≤ length b) where
  abbrev room : ℕ
  room = length b - at

  -- nothing stands after the part
  none_after : drop room (drop at b) ≡ []
  none_after = Post-is at (length b) b h ∙ drop-length b

  -- the part is all from the place on
  part-whole : mid_of at room b ≡ drop at b
  part-whole =
      sym (append-nil (mid_of at room b)) ∙ ap (λ x. mid_of at room b ++ x) (sym none_after) ∙ take-append-drop room (drop at b)

  part_room : length (mid_of at room b) ≡ room
  part_room = mid_len at (length b) b (omega arith)

  -- what a request on the part tells is what it tells with that room
  pub part-asked : (r : Requested) → RequestIs (request (length (mid_of at room b))) (answer_of (request (length (mid_of at room b))) s) s r
      → RequestIs (request room) (answer_of (request room) s) s r
  part-asked r R = subst (λ k. RequestIs (request k) (answer_of (request k) s) s r) part_room R

  -- and the buffer is as before up to the place
  pub part_bytes : (ys : List ℕ) → ys ≡ bytes_of s (mid_of at room b) → put_mid at room b ys ≡ take at b ++ bytes_of s (drop at b)
  part_bytes ys e =
      ap (λ x. take at b ++ (ys ++ x)) none_after
      ∙ ap (λ x. take at b ++ x) (append-nil ys ∙ e ∙ ap (bytes_of s) part-whole)

  -- what follows, by the answer
  pub given-as : (a : model.Answer) (r : Requested) (g : Given) → RequestIs (request room) (answer_of (request room) s) s r → answer_of (request room) s ≡ a
      → sequel_told g.sequel ≡ sequel a → g.campaign.state ≡ as_run a r.campaign.state → g.at ≡ at + r.written → GivenIs room at s g
  unfolding left_of
  given-as a r g R e t st p = record {
    told = t ∙ ap sequel (sym e);
    state = st ∙ ap (as_run a) R.state ∙ ap (λ x. as_run x (after (request room) (answer_of (request room) s) s)) (sym e);
    place = p ∙ ap (λ k. at + k) R.written;
  }

  -- where a line was given: what follows, and the buffer
  pub line-given : (r : Requested) (g : Given) (ys : List ℕ) {a : model.Answer}
      → RequestIs (request (length (mid_of at room b))) (answer_of (request (length (mid_of at room b))) s) s r × (ys ≡ bytes_of s (mid_of at room b))
      → answer_told r.answer ≡ accepted a → sequel_told g.sequel ≡ sequel a
      → g.campaign.state ≡ as_run a r.campaign.state → g.at ≡ at + r.written
      → GivenIs room at s g × (put_mid at room b ys ≡ take at b ++ bytes_of s (drop at b))
  line-given r g ys {a} Q e t st p =
      let R = part-asked r Q.0 in
      (given-as a r g R (told-given _ (sym R.answer ∙ e)) t st p, part_bytes ys Q.1)
