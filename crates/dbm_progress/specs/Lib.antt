pub mod InTheWay
