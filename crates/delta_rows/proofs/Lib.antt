pub mod ValueTies
