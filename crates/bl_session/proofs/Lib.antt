mod FirstValues
mod FoundRoutes
mod ToldBodies
