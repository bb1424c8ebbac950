-- What is kept when nothing of the tree changes.
use Rattle.std.proofs.Common.{◌≡◌, ℕ, sym, refl, subst}
use Rattle.pages.specs.Image.{Image}
use Rattle.orders.specs.Orders.{Order}
use Rattle.index.specs.Model.{Known, state}
use Rattle.index.specs.Model.Known.{shut}
use Rattle.index.specs.Keeping.{Content, Kept}
use Rattle.index.specs.Keeping.Content.{blank, filed}

-- the same pages at another charge
pub recharged : (o : Order) (m : Image) (x : ℕ) (k : Known) (c : Content) → Kept o (state m k) c → Kept o (state (record { pages = m.pages; charge = x }) k) c
recharged o m x k blank h = h
recharged o m x k (filed f) h = record { there = h.there; header = h.header; sound = h.sound; low = h.low; counts = h.counts; agrees = h.agrees }

pub same_pages : (o : Order) (m m' : Image) (k : Known) (c : Content) → m'.pages ≡ m.pages → Kept o (state m k) c → Kept o (state m' k) c
same_pages o m m' k c e h = subst (λ ps. Kept o (state (record { pages = ps; charge = m'.charge }) k) c) (sym e) (recharged o m m'.charge k c h)

-- a shut index agrees with every tree
pub forgotten : (o : Order) (m : Image) (k : Known) (c : Content) → Kept o (state m k) c → Kept o (state m shut) c
forgotten o m k blank h = (refl, h.1)
forgotten o m k (filed f) h = record { there = h.there; header = h.header; sound = h.sound; low = h.low; counts = h.counts; agrees = tt }
