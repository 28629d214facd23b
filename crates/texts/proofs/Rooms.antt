-- Laws of `put_listing`: a picture too short, a buffer too short, and room enough.
--     listing_no_picture, listing_no_room, listing-put
--     listing-room, listing_whole, listing_at_once, listing-copied    in the room of the longest listing every listing is put whole
--     put_is_inside    what was put lies in the buffer
-- Assumes nothing.
use mathlib.Core.Path.{◌≡◌, ap, ◌∙◌}
use mathlib.Core.List.{List, ◌++◌}
use Prim.Native.Nat.{ℕ, ◌+◌, ◌-◌, ◌*◌, ◌≤◌, ◌<◌}
use native.Mathlib.Nat.{zero-add}
use native.Mathlib.Omega.{arith}
use lib.ListN.{length, take, drop}
use lib.Seq.{sets-eq, take_at}
use lib.Dec.{ltb, leb}
use borrow.Author.Tests.{lt-ltb, le-ltb, le-leb, lt-leb, leb-true}
use Rattle.laws.proofs.Choices.{cond_elim}
use Rattle.laws.specs.Refusals.{too_short}
use Rattle.laws.specs.Copies.{copied_in}
use Rattle.shape.specs.Layout.{size}
use Rattle.shape.specs.Limits.{addresses}
use Rattle.std.specs.Prelude.{Result, Ok, Err}
use Rattle.replay.specs.Window.{Stream}
use Rattle.texts.specs.Text.{Fits, Written}
use Rattle.texts.specs.Listing.{listing_text, listing_answer, listing_bytes}
use Rattle.texts.specs.TextStatements.{line_room, PutIsInside}
use Rattle.groups.proofs.Reading.{different}
use Rattle.texts.proofs.Texts.{room_is_enough}
use Rattle.texts.proofs.Listings.{listing-fits}

module _ (b out : List ℕ) (stream : Stream) where
  abbrev text : List ℕ
  text = listing_text b stream

  abbrev pub ListingIs : Result ℕ ℕ → List ℕ → Type 0
  ListingIs answer after = (answer ≡ listing_answer b out stream) × (after ≡ listing_bytes b out stream)

  pub listing_no_picture : length b < size → ListingIs (Err too_short) out
  unfolding listing_answer listing_bytes
  listing_no_picture h = let e = lt-ltb (length b) size h in (rw e, rw e)

  pub listing_no_room : size ≤ length b → length out < length text → ListingIs (Err too_short) out
  unfolding listing_answer listing_bytes
  listing_no_room h l =
      let e = le-ltb (length b) size h in
      let f = lt-leb (length text) (length out) l in
      (rw (e, f), rw (e, f))

  pub listing-put : size ≤ length b → length text ≤ length out → ListingIs (Ok (length text)) (text ++ drop (length text) out)
  unfolding listing_answer listing_bytes
  listing-put h l =
      let e = le-ltb (length b) size h in
      let f = le-leb (length text) (length out) l in
      (rw (e, f), rw (e, f))

  -- in a buffer that holds any listing
  pub listing-room : line_room * (addresses + 3) ≤ length out → Fits out 0 text
  listing-room h = record { room = omega (arith, listing-fits b stream) }

  module _ (room : line_room * (addresses + 3) ≤ length out) (after : List ℕ) (n : ℕ) (w : Written out 0 text after n) where
    pub listing_whole : (n ≡ length text) × (after ≡ text ++ drop (length text) out)
    listing_whole =
        let e = room_is_enough out 0 text after n (omega (arith, listing-fits b stream)) w in
        (omega (arith, e.0), e.1 ∙ ap (λ (k : ℕ). text ++ drop k out) (zero-add (length text)))

    pub listing_at_once : size ≤ length b → ListingIs (Ok n) after
    listing_at_once h = let p = listing-put h (omega (arith, listing-fits b stream)) in (ap Ok listing_whole.0 ∙ p.0, listing_whole.1 ∙ p.1)

-- made in such a buffer first, and then copied into one that it fits
pub listing-copied : (b out room after : List ℕ) (n : ℕ) (stream : Stream) → size ≤ length b → line_room * (addresses + 3) ≤ length room
    → Written room 0 (listing_text b stream) after n → n ≤ length out → ListingIs b out stream (Ok n) (copied_in out 0 (take (n - 0) (drop 0 after)))
unfolding copied_in
listing-copied b out room after n stream h large w fits =
    let text : List ℕ = listing_text b stream in
    let whole = listing_whole b room stream large after n w in
    let p = listing-put b out stream h (omega (arith, whole.0)) in
    let same : take (n - 0) (drop 0 after) ≡ text = (λ i. take (n - 0) (drop 0 (whole.1 i))) ∙ take_at text (drop (length text) room) (n - 0) (omega (arith, whole.0)) in
    let copied : copied_in out 0 text ≡ text ++ drop (length text) out = (rw (le-leb (0 + length text) (length out) (omega (arith, whole.0)))) ∙ sets-eq text out 0 (omega (arith, whole.0)) ∙ ap (λ (k : ℕ). text ++ drop k out) (zero-add (length text)) in
    (ap Ok whole.0 ∙ p.0, ap (copied_in out 0) same ∙ copied ∙ p.1)

pub put_is_inside : PutIsInside
unfolding listing_answer
put_is_inside b out stream n =
    let k : ℕ = length (listing_text b stream) in
    cond_elim (λ (p : Result ℕ ℕ). p ≡ Ok n → n ≤ length out) (ltb (length b) size) _ _ (λ _ e. absurd (different cc))
    (λ _. cond_elim (λ (p : Result ℕ ℕ). p ≡ Ok n → n ≤ length out) (leb k (length out)) _ _
    (λ fits e. let same : k ≡ n = cc in omega (arith, leb-true k (length out) fits)) (λ _ e. absurd (different cc)))
