mod RoomLemmas
mod DigestLemmas
mod ClashLemmas
