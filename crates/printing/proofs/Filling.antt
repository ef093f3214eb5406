-- The buffer filled line by line: after each line the text so far stands at the front, and what is printed into the whole buffer is that text and then what is
-- printed into the rest (`Filling`).
-- Assumes nothing.
use mathlib.Core.Path.{◌≡◌, refl, sym, ap, subst, ◌∙◌}
use mathlib.Core.Bool.{Bool, true, false}
use mathlib.Core.List.{List, ◌++◌, append_assoc}
use Prim.Native.Nat.{ℕ, suc, ◌+◌, ◌-◌, ◌≤◌, ◌<◌}
use native.Mathlib.Omega.{arith}
use lib.ListN.{length, take, drop, length-drop, length-append}
use Rattle.words.specs.Told.{Told, accepted}
use Rattle.promise.specs.Campaign as model
use Rattle.promise.specs.Campaign.{request}
use Rattle.line_format.specs.Calls.{over}
use Rattle.campaign_state.specs.State.{answer_text, width}
use Rattle.campaign_state.specs.declared.State.{State}
use Rattle.campaign.specs.Calls.{answer_of, bytes_of}
use Rattle.campaign.proofs.Tells.{within-room}
use Rattle.printing.specs.Printing.{sequel, more, Printout, in_front, onward, lines_in}
use Rattle.printing.specs.Rehearsals.{state_of}
use Rattle.printing.specs.Answers.{sequel_told, filled_told, stop_told, fill_of, fill_bytes, GivenIs, LinedIs, PrintedIs}
use Rattle.printing.specs.declared.Given.{Given}
use Rattle.printing.specs.declared.Lined.{Lined}
use Rattle.printing.specs.declared.Printed.{Printed}
use Rattle.printing.specs.declared.Rehearsal.{Rehearsal}
use Rattle.printing.proofs.Lines.{some_byte, goes-on, stops, text-fits, told-within}
use Rattle.line_format.proofs.Buffer.{put, put_front, put_rest, put-length, rest-first, put-over, front_length}

-- the first buffer b₀ and state s₀, and now the buffer b with its lines up to a place, and the state s
pub record Filling (s₀ : State) (b₀ : List ℕ) (s : State) (b : List ℕ) (at : ℕ) : Type 0 where
  pub within : at ≤ length b
  pub long : length b ≡ length b₀
  pub printed : lines_in (length b₀) s₀ ≡ in_front (take at b) (lines_in (length b - at) s)
  pub rest : drop at b ≡ drop at b₀

pub filling-first : (s : State) (b : List ℕ) → Filling s b s b 0
filling-first s b = record { within = omega arith; long = refl; printed = ap (λ k. lines_in k s) (omega arith); rest = refl }

module _ (s₀ : State) (b₀ : List ℕ) (s : State) (b : List ℕ) (at : ℕ) (F : Filling s₀ b₀ s b at) where
  abbrev room : ℕ
  room = length b - at

  abbrev a : model.Answer
  a = answer_of (request room) s

  -- the line fits after the place
  fits : at + width a ≤ length b
  fits = omega (arith, within-room room s, F.within)

  -- the buffer with the line at the place
  lined : take at b ++ bytes_of s (drop at b) ≡ put at (answer_text a) b
  unfolding bytes_of
  lined = ap (λ k. take at b ++ over (answer_text (answer_of (request k) s)) (drop at b)) (length-drop at b)

  -- after a line that others follow
  pub filling-on : more (sequel a) ≡ true → Filling s₀ b₀ (onward room s) (take at b ++ bytes_of s (drop at b)) (at + width a)
  filling-on e =
      let p = put at (answer_text a) b in
      let long : length p ≡ length b = put-length at (answer_text a) b fits in
      subst (λ x. Filling s₀ b₀ (onward room s) x (at + width a)) (sym lined)
      (record {
        within = omega (arith, fits);
        long = long ∙ F.long;
        printed =
            F.printed
            ∙ ap (in_front (take at b)) (goes-on room s e)
            ∙ ap (λ t. record { text = t; left = (lines_in (room - width a) (onward room s)).left; stop = (lines_in (room - width a) (onward room s)).stop })
            (sym (append_assoc (take at b) (answer_text a) (lines_in (room - width a) (onward room s)).text))
            ∙ ap (λ t. in_front t (lines_in (room - width a) (onward room s))) (sym (put_front at (answer_text a) b fits))
            ∙ ap (λ k. in_front (take (at + width a) p) (lines_in k (onward room s))) (omega arith);
        rest = put_rest at (answer_text a) b fits ∙ rest-first at (answer_text a) b fits b₀ F.rest;
      })

  -- and less room is left
  pub filling-less : more (sequel a) ≡ true → length b - (at + width a) < length b - at
  filling-less e = omega (arith, fits, some_byte a e)

  -- the last answer
  module _ (e : more (sequel a) ≡ false) where
    last : lines_in (length b₀) s₀ ≡ record { text = take at b ++ answer_text a; left = onward room s; stop = a }
    last = F.printed ∙ ap (in_front (take at b)) (stops room s e)

    pub last-told : stop_told (at + width a) (sequel a) ≡ fill_of (length b₀) s₀
    last-told =
        ap (λ k. stop_told k (sequel a)) (sym (front_length at (answer_text a) b fits))
        ∙ ap (λ (x : Printout). stop_told (length x.text) (sequel x.stop)) (sym last)

    pub last-left : onward room s ≡ (lines_in (length b₀) s₀).left
    last-left = ap (λ (x : Printout). x.left) (sym last)

    pub last-bytes : take at b ++ bytes_of s (drop at b) ≡ fill_bytes s₀ b₀
    last-bytes =
        lined ∙ put-over at (answer_text a) b fits b₀ F.rest ∙ ap (λ (x : Printout). over x.text b₀) (sym last)

-- ---- the same of what one request gave

module _ (s₀ : State) (b₀ : List ℕ) (s : State) (b : List ℕ) (at : ℕ) (F : Filling s₀ b₀ s b at) (g : Given) (b' : List ℕ)
    (G : GivenIs (length b - at) at s g × (b' ≡ take at b ++ bytes_of s (drop at b))) where
  abbrev told : Told Bool
  told = sequel_told g.sequel

  -- more lines follow
  on-so : accepted true ≡ told → more (sequel (answer_of (request (length b - at)) s)) ≡ true
  on-so e = ap more (sym (e ∙ G.0.told))

  pub line_on : accepted true ≡ told → Filling s₀ b₀ g.campaign.state b' g.at
  line_on e =
      subst (λ x. Filling s₀ b₀ x b' g.at) (sym G.0.state)
      (subst (λ k. Filling s₀ b₀ (onward (length b - at) s) b' k) (sym G.0.place)
      (subst (λ x. Filling s₀ b₀ (onward (length b - at) s) x (at + width (answer_of (request (length b - at)) s))) (sym G.1)
      (filling-on s₀ b₀ s b at F (on-so e))))

  pub line-less : accepted true ≡ told → length b' - g.at < length b - at
  line-less e =
      let long : length b' ≡ length b = (line_on e).long ∙ sym F.long in
      omega (arith, long, G.0.place, filling-less s₀ b₀ s b at F (on-so e))

  -- none follows: that is all that was printed
  pub line-last : (r : Lined) (t : Told Bool) → r.campaign ≡ g.campaign → t ≡ told → filled_told r.filled ≡ stop_told g.at t → more t ≡ false
      → LinedIs (length b₀) s₀ r × (b' ≡ fill_bytes s₀ b₀)
  line-last r t c e f n =
      let a = answer_of (request (length b - at)) s in
      let none : more (sequel a) ≡ false = ap more (sym (e ∙ G.0.told)) ∙ n in (
        record {
          told =
              f
              ∙ ap (λ k. stop_told k t) G.0.place
              ∙ ap (stop_told (at + width a)) (e ∙ G.0.told)
              ∙ last-told s₀ b₀ s b at F none;
          state = ap (λ x. x.state) c ∙ G.0.state ∙ last-left s₀ b₀ s b at F none;
        },
        G.1 ∙ last-bytes s₀ b₀ s b at F none,
      )

-- ---- how many bytes are told

-- no more than the buffer has
pub bytes-within : (r : Rehearsal) (b b' : List ℕ) (p : Printed) (n : ℕ) (e : Bool) → PrintedIs (length b) r p × (b' ≡ fill_bytes (state_of r) b)
    → filled_told p.filled ≡ accepted (n, e) → n ≤ length b'
bytes-within r b b' p n e P h =
    let s = state_of r in
    let t = (lines_in (length b) s).text in
    omega (
      arith,
      told-within (length b) s n e (sym P.0.told ∙ h),
      text-fits (suc (length b)) (length b) s,
      ap length P.1,
      length-append t (drop (length t) b),
      length-drop (length t) b,
    )
